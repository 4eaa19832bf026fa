use Rattle.std.proofs.Common.{◌≡◌, ◌∙◌, length, ap}
use Rattle.std.proofs.lemmas.Result.{on_ok_weaker}
use Rattle.plan_runs.specs.Wakings.{WakesBy}
use Rattle.plan_runs.proofs.Turned.{takes-turn, counts-more}
use Rattle.plan_runs.proofs.turn.take_turn.Goals as goal

pub returns-clause-takes : goal.returns-clause-takes
returns-clause-takes g c =
    on_ok_weaker c.wake.result
    (λ (x : WakesBy c.step.new.self c.args.thread c.top_of-top.result c.made-made.result c.leave_parts.new.watch c.wake.new.watch).
    takes-turn c.args.thread c.args.engine.now c.args.watch.now c.count.new.self c.leave_parts.new.watch c.wake.new.watch
    c.step.new.self c.in_ok-kind.kind c.top_of-top.result c.made-made.result c.in_ok-kind.ensures.ok c.in_ok-count.ensures
    c.leave_parts.ensures c.top_of-top.ensures (c.made-made.ensures ∙ ap length c.heap.ensures) x)
    c.wake.ensures

pub returns-clause-few : goal.returns-clause-few
returns-clause-few g c =
    on_ok_weaker c.wake.result
    (λ (x : WakesBy c.step.new.self c.args.thread c.top_of-top.result c.made-made.result c.leave_parts.new.watch c.wake.new.watch).
    counts-more c.args.thread c.in_ok-kind.kind c.args.engine.now c.step.new.self c.args.watch.now c.count.new.self
    c.leave_parts.new.watch c.wake.new.watch c.top_of-top.result c.made-made.result c.in_ok-count.ensures c.leave_parts.ensures x)
    c.wake.ensures
