use Rattle.std.proofs.Common.{◌≡◌, ◌+◌, drop}
use Rattle.cxx_tree.specs.StmtTree.{stmts_tree}
use Rattle.cxx_tree.specs.Nodes.{capped, nodes_in_stmts}
use Rattle.cxx_tree.proofs.count.stmt.+with_stmt.Given as goal

-- what was counted fits, and with what is left it is the whole
abbrev pub invariant-with_stmts-loop-stmt : goal.invariant-with_stmts-loop-stmt
invariant-with_stmts-loop-stmt l =
    (l.total ≡ capped l.total) × (capped (l.total + nodes_in_stmts (stmts_tree (drop l.stmt-index l.stmts))) ≡ capped (l.fn.count + nodes_in_stmts (stmts_tree l.stmts)))
