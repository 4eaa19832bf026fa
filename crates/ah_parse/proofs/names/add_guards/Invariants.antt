use Rattle.std.proofs.Common.{◌≡◌, ◌++◌, take, map}
use Rattle.ah_parse.specs.GuardFiles.{guard_by}
use Rattle.ah_parse.proofs.names.add_guards.Given as goal

abbrev pub invariant-loop-class : goal.invariant-loop-class
invariant-loop-class l = l.guards ≡ l.fn.guards ++ map (guard_by l.names l.aspect) (take l.class-index l.aspect.classes)
