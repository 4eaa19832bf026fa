use Rattle.std.proofs.Common.{refl, List}
use Rattle.cxx_tree.specs.declared.expr.Expr.{Expr}
use Rattle.cxx_tree.specs.ExprTree.{expr_tree, exprs_tree}
use Rattle.cxx_distinct.specs.NamesIn.{names_in_expr, names_in_exprs}
use Rattle.cxx_distinct.proofs.Runs.{ok_then, seen_more}
use Rattle.cxx_distinct.proofs.Views.{binary_is}
use Rattle.cxx_distinct.proofs.sights.Sights.+expr.Goals as goal

pub exprs-loop-expr-preserved : goal.exprs-loop-expr-preserved
exprs-loop-expr-preserved t c = seen_more (λ (xs : List Expr). names_in_exprs (exprs_tree xs)) c.args.exprs.now c.loop-expr.expr-index c.expr-item.result (names_in_expr (expr_tree c.expr-item.result)) c.loop-expr.self c.expr.new.self _ c.loop-expr-test.true c.expr-item.is refl c.in_ok-expr.ensures c.loop-expr.invariant

pub expr-returns-in_ok-expr-in-Binary : goal.expr-returns-in_ok-expr-in-Binary
expr-returns-in_ok-expr-in-Binary t c =
    let first = names_in_expr (expr_tree c.get-in-Binary.result.now) in
    let second = names_in_expr (expr_tree c.get-in-Binary-2.result.now) in
    let both = ok_then c.expr-in-Binary-2.result c.args.self.now c.expr-in-Binary.new.self c.expr-in-Binary-2.new.self first second c.in_ok-expr-in-Binary.ensures c.expr-in-Binary-2.ensures in
    rw (c.in-Binary.is, binary_is, ← c.get-in-Binary.ensures, ← c.get-in-Binary-2.ensures) both
