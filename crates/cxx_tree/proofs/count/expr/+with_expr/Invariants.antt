use Rattle.std.proofs.Common.{◌≡◌, ◌+◌, drop}
use Rattle.cxx_tree.specs.ExprTree.{exprs_tree}
use Rattle.cxx_tree.specs.Nodes.{capped, nodes_in_exprs}
use Rattle.cxx_tree.proofs.count.expr.+with_expr.Given as goal

-- what was counted fits, and with what is left it is the whole
abbrev pub invariant-with_exprs-loop-expr : goal.invariant-with_exprs-loop-expr
invariant-with_exprs-loop-expr l =
    (l.total ≡ capped l.total) × (capped (l.total + nodes_in_exprs (exprs_tree (drop l.expr-index l.exprs))) ≡ capped (l.fn.count + nodes_in_exprs (exprs_tree l.exprs)))
