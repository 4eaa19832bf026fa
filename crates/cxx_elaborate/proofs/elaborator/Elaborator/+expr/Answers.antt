use Rattle.cxx_elaborate.proofs.Onto.{exprs-turn, exprs-done}
use Rattle.cxx_elaborate.proofs.elaborator.Elaborator.+expr.Goals as goal

pub exprs-loop-expr-preserved : goal.exprs-loop-expr-preserved
exprs-loop-expr-preserved t c =
    exprs-turn c.args.self.now c.args.scope.now c.args.exprs.now c.loop-expr.expr-index c.expr-item.result c.loop-expr.made c.push.new.self c.in_ok-expr.field-0 _ c.loop-expr.invariant c.loop-expr-test.true c.expr-item.is c.in_ok-push.ensures.ok c.in_ok-expr.ensures

pub exprs-returns : goal.exprs-returns
exprs-returns t c =
    exprs-done c.args.self.now c.args.scope.now c.args.exprs.now c.loop-expr.expr-index c.loop-expr.made _ c.loop-expr.invariant c.loop-expr-test.false
