use Rattle.std.proofs.Common.{◌≡◌, drop, map}
use Rattle.cxx_tree.specs.StmtTree.{printed_tree}
use Rattle.guard_rules.specs.Nearest.{through_each}
use Rattle.guard_rules.specs.ThroughMembers.{through_printed}
use Rattle.guard_rules.proofs.known.Known.reached_in_operands.Given as goal

abbrev pub invariant-loop-operand : goal.invariant-loop-operand
invariant-loop-operand l =
    through_each (through_printed l.self) (map printed_tree (drop l.operand-index l.operands)) l.first ≡ through_each (through_printed l.self) (map printed_tree l.operands) l.fn.found
