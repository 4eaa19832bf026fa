use Rattle.std.proofs.Common.{refl}
use Rattle.cxx_print.specs.Statements as form
use Rattle.cxx_tree.specs.StmtTree.{stmts_tree}
use Rattle.cxx_print.proofs.Firsts.{prints-view}
use Rattle.cxx_print.proofs.Views.{block-view, if-view, while-view, for-view}
use Rattle.cxx_print.proofs.Printed.{prints-both, prints-turn, prints-done}
use Rattle.cxx_print.proofs.printer.Printer.+stmt.Goals as goal

pub stmt_line-returns : goal.stmt_line-returns
stmt_line-returns g t c =
    prints-both c.indented.ensures (prints-both c.stmt.ensures c.newline.ensures)

pub block-returns : goal.block-returns
block-returns g t c =
    prints-view (form.block c.args.level) _ _ (block-view c.args.block.now) (prints-both c.sign.ensures (prints-both c.newline.ensures (prints-both (rw (c.one_deeper.ensures, c.as_slice.ensures) at c.stmts.ensures) (prints-both c.indented.ensures c.sign-2.ensures))))

pub branch-returns : goal.branch-returns
branch-returns g t c =
    prints-view (form.branch c.args.level) _ _ (if-view c.args.branch.now) (prints-both c.with_condition.ensures (prints-both c.gap.ensures (prints-both c.block.ensures c.alternative.ensures)))

pub else_if-returns : goal.else_if-returns
else_if-returns g t c =
    prints-both c.otherwise.ensures c.branch-self.ensures

pub else_block-returns : goal.else_block-returns
else_block-returns g t c =
    prints-both c.otherwise.ensures c.block.ensures

pub repeat_while-returns : goal.repeat_while-returns
repeat_while-returns g t c =
    prints-view (form.stmt c.args.level) _ _ (while-view c.args.repeat.now) (prints-both c.with_condition.ensures (prints-both c.gap.ensures c.block.ensures))

pub repeat_for-returns : goal.repeat_for-returns
repeat_for-returns g t c =
    prints-view (form.stmt c.args.level) _ _ (for-view c.args.repeat.now) (prints-both c.for_head.ensures (prints-both c.gap.ensures c.block.ensures))

pub stmts-loop-stmt-init : goal.stmts-loop-stmt-init
stmts-loop-stmt-init g t c = λ u h. h

pub stmts-loop-stmt-preserved : goal.stmts-loop-stmt-preserved
stmts-loop-stmt-preserved g t c =
    prints-turn (λ ss. form.stmts c.args.level (stmts_tree ss)) c.args.stmts.now c.loop-stmt.stmt-index c.stmt-item.result c.loop-stmt-test.true c.stmt-item.is (λ ys. refl) c.loop-stmt.invariant c.stmt_line.ensures

pub stmts-returns : goal.stmts-returns
stmts-returns g t c =
    prints-done (λ ss. form.stmts c.args.level (stmts_tree ss)) c.args.stmts.now c.loop-stmt.stmt-index c.loop-stmt-test.false refl c.loop-stmt.invariant
