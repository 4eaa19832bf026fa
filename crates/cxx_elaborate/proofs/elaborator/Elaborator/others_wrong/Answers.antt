use Rattle.std.proofs.Common.{sym, ◌∙◌}
use Rattle.cxx_core.specs.StmtView.{stmts_core}
use Rattle.cxx_elaborate.proofs.Onto.{others-push, others-pass, others-done}
use Rattle.cxx_elaborate.proofs.elaborator.Elaborator.others_wrong.Goals as goal
use Rattle.cxx_elaborate.proofs.elaborator.Elaborator.others_wrong.Goals.{then-not-is_named+in_ok-push, else-not-is_named}

pub loop-init-preserved : goal.loop-init-preserved
loop-init-preserved c = elim c.if-not-is_named.branch [
  | then-not-is_named+in_ok-push w ↦
      others-push c.args.base (stmts_core c.args.body) c.args.inits.now c.loop-init.init-index c.init-item.result c.loop-init.stmts c.if-not-is_named.stmts w.wrong.result _ c.loop-init.invariant c.loop-init-test.true c.init-item.is (sym c.is_named.ensures ∙ w.if-not-is_named.true) w.wrong.ensures (w.stmts-is ∙ w.in_ok-push.ensures.ok)
  | else-not-is_named w ↦
      others-pass c.args.base (stmts_core c.args.body) c.args.inits.now c.loop-init.init-index c.init-item.result c.loop-init.stmts c.if-not-is_named.stmts _ c.loop-init.invariant c.loop-init-test.true c.init-item.is (sym c.is_named.ensures ∙ w.if-not-is_named.false) w.stmts-is
]

pub returns : goal.returns
returns c =
    others-done c.args.base c.args.body c.args.inits.now c.loop-init.init-index c.loop-init.stmts c.append.new.self _ c.loop-init.invariant c.loop-init-test.false c.in_ok-append.ensures
