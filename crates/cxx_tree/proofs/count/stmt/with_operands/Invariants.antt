use Rattle.std.proofs.Common.{◌≡◌, ◌+◌, drop, map}
use Rattle.std.specs.Prelude.{sum_by}
use Rattle.cxx_tree.specs.StmtTree.{printed_tree}
use Rattle.cxx_tree.specs.Nodes.{capped, nodes_in_printed}
use Rattle.cxx_tree.proofs.count.stmt.with_operands.Given as goal

-- what was counted fits, and with what is left it is the whole
abbrev pub invariant-loop-operand : goal.invariant-loop-operand
invariant-loop-operand l =
    (l.total ≡ capped l.total) × (capped (l.total + sum_by nodes_in_printed (map printed_tree (drop l.operand-index l.operands))) ≡ capped (l.fn.count + sum_by nodes_in_printed (map printed_tree l.operands)))
