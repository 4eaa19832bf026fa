use Rattle.std.proofs.Common.{false, ap, ◌∙◌}
use Rattle.cxx_tree.specs.ExprTree.{expr_tree, exprs_tree}
use Rattle.cxx_print.specs.Listed.{listed}
use Rattle.cxx_print.specs.Expressions as form
use Rattle.cxx_print.proofs.Firsts.{prints-next, prints-view}
use Rattle.cxx_print.proofs.Views.{binary-view, call-view, listed-more, listed-none}
use Rattle.cxx_print.proofs.Printed.{prints-both, prints-done}
use Rattle.cxx_print.proofs.printer.Printer.+expr.Goals as goal

pub unary-returns : goal.unary-returns
unary-returns g t c =
    prints-both (rw c.unary_text.ensures at c.sign.ensures) (prints-both (rw c.joins.ensures at c.apart.ensures) c.expr.ensures)

pub sign_and_right-returns : goal.sign_and_right-returns
sign_and_right-returns g t c =
    prints-both (rw c.binary_text.ensures at c.spaced.ensures) c.expr.ensures

pub parenthesized-returns : goal.parenthesized-returns
parenthesized-returns g t c =
    prints-both c.sign.ensures (prints-both c.expr.ensures c.sign-2.ensures)

pub cast-returns : goal.cast-returns
cast-returns g t c =
    prints-both c.type_name.ensures c.parenthesized.ensures

pub new_with-returns : goal.new_with-returns
new_with-returns g t c =
    prints-both c.new_object.ensures c.arguments.ensures

pub arguments-returns : goal.arguments-returns
arguments-returns g t c =
    prints-both c.sign.ensures (prints-both c.separated.ensures c.sign-2.ensures)

pub after_comma-returns : goal.after_comma-returns
after_comma-returns g t c =
    prints-both c.comma.ensures c.expr.ensures

pub call-returns : goal.call-returns
call-returns g t c =
    prints-view form.call _ _ (call-view c.args.call.now) (prints-both c.callee.ensures (rw c.as_slice.ensures at c.arguments.ensures))

pub expr-returns-in-Binary : goal.expr-returns-in-Binary
expr-returns-in-Binary g t c =
    prints-view form.expr _ _ (ap expr_tree c.in-Binary.is ∙ binary-view _ _ _ _) (prints-both (rw c.get-in-Binary.ensures at c.expr.ensures) (rw c.get-in-Binary-2.ensures at c.sign_and_right.ensures))

pub listed-loop-expr-init : goal.listed-loop-expr-init
listed-loop-expr-init g t c = λ u h. h

pub listed-loop-expr-preserved : goal.listed-loop-expr-preserved
listed-loop-expr-preserved g t c =
    prints-next (λ es. listed c.loop-expr.is_first (exprs_tree es)) (λ es. listed false (exprs_tree es)) c.args.exprs.now c.loop-expr.expr-index c.expr-item.result c.loop-expr-test.true c.expr-item.is (λ ys. listed-more c.loop-expr.is_first c.expr-item.result ys) c.loop-expr.invariant c.listed_part.ensures

pub listed-returns : goal.listed-returns
listed-returns g t c =
    prints-done (λ es. listed c.loop-expr.is_first (exprs_tree es)) c.args.exprs.now c.loop-expr.expr-index c.loop-expr-test.false (listed-none c.loop-expr.is_first) c.loop-expr.invariant
