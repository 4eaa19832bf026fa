use Rattle.std.proofs.Common.{◌≡◌, ◌++◌, take}
use Rattle.ah_parse.specs.GuardFiles.{guards_of}
use Rattle.ah_parse.proofs.names.guards_of.Given as goal

abbrev pub invariant-loop-aspect : goal.invariant-loop-aspect
invariant-loop-aspect l = l.guards ≡ l.fn.guards ++ guards_of l.names (take l.aspect-index l.aspects)
