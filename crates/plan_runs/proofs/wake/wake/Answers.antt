use Rattle.std.proofs.Common.{inl, inr, ◌≡◌, ◌∙◌, ap, length, arith}
use Rattle.std.proofs.lemmas.Result.{on_ok_weaker}
use Rattle.plan_runs.specs.Wakings.{WakesLeft}
use Rattle.plan_runs.proofs.WokenLefts.{by-none, wakes-all, empties-at}
use Rattle.plan_runs.proofs.wake.wake.Goals as goal
use Rattle.plan_runs.proofs.wake.wake.Goals.{then-made+in-Ok+in_ok-wake_object, else-made}

pub returns-then-waits_for_none : goal.returns-then-waits_for_none
returns-then-waits_for_none g c =
    by-none c.args.engine.now c.args.thread c.args.top c.args.made c.args.watch.now (c.waits_for_none.ensures.0 c.if-waits_for_none.true)

pub returns : goal.returns
returns g c =
    on_ok_weaker c.wake_left.result
    (λ (h : WakesLeft c.args.engine.now c.args.thread c.args.top c.if-made.watch c.wake_left.new.watch).
    wakes-all c.args.engine.now c.args.thread c.args.top c.args.made c.args.watch.now c.if-made.watch c.wake_left.new.watch
    (elim c.if-made.branch [
      | then-made+in-Ok+in_ok-wake_object w ↦
          inl (empties-at w.in-Ok.object c.args.made c.args.watch.now w.wake_object.new.watch c.if-made.watch w.in-Ok.ensures.1 w.watch-is
          w.in_ok-wake_object.ensures)
      | else-made w ↦
          let e : c.made.result ≡ length c.args.engine.now.world.objects = c.made.ensures ∙ ap length c.heap.ensures in
          inr (omega (arith, e, w.if-made.false), w.watch-is)
    ]) h)
    c.wake_left.ensures
