use Rattle.std.proofs.Common.{◌≡◌, drop, map}
use Rattle.cxx_tree.specs.ExprTree.{exprs_tree}
use Rattle.cxx_core.specs.ExprView.{expr_core}
use Rattle.cxx_core.specs.ElaboratedExpr.{core_exprs}
use Rattle.cxx_elaborate.proofs.Onto.{exprs_onto}
use Rattle.cxx_elaborate.proofs.elaborator.Elaborator.+expr.Given as goal

abbrev pub invariant-exprs-loop-expr : goal.invariant-exprs-loop-expr
invariant-exprs-loop-expr l =
    exprs_onto (map expr_core l.made) (core_exprs l.self l.scope (exprs_tree (drop l.expr-index l.exprs))) ≡ core_exprs l.self l.scope (exprs_tree l.exprs)
