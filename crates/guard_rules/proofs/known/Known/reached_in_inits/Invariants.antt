use Rattle.std.proofs.Common.{◌≡◌, drop, map}
use Rattle.cxx_tree.specs.ProgramTree.{init_tree}
use Rattle.guard_rules.specs.Nearest.{through_each}
use Rattle.guard_rules.specs.ThroughMembers.{through_init}
use Rattle.guard_rules.proofs.known.Known.reached_in_inits.Given as goal

abbrev pub invariant-loop-init : goal.invariant-loop-init
invariant-loop-init l =
    through_each (through_init l.self) (map init_tree (drop l.init-index l.inits)) l.first ≡ through_each (through_init l.self) (map init_tree l.inits) l.fn.found
