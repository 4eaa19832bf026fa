use Rattle.std.proofs.Common.{◌≤◌, ◌+◌, arith}
use Rattle.std.proofs.lemmas.Result.{on_ok_weaker}
use Rattle.step_engine.specs.TurnRuns.{turns_in}
use Rattle.fault_lines.proofs.Lines.{some-lines-are-enough}
use Rattle.fault_lines.proofs.Wakes.{lines-are-woken}
use Rattle.fault_lines.proofs.Settles.{moments-settle}
use Rattle.fault_lines.proofs.Readies.{turns-make-ready}
use Rattle.plan_runs.specs.Turns.{TakesTurn}
use Rattle.plan_runs.proofs.Comings.{comes, room-left, few-more}
use Rattle.plan_runs.proofs.runs.take_moment.Goals as goal

pub take_turn-requires : goal.take_turn-requires
take_turn-requires g c =
    room-left c.args.turn c.args.watch.now.counts c.take_flips.new.watch.counts c.in_ok-take_flips.ensures.counts c.requires.few c.requires.room

pub returns-clause-comes : goal.returns-clause-comes
returns-clause-comes g c =
    on_ok_weaker c.take_turn.result
    (λ (h : TakesTurn c.turn.result c.take_flips.new.engine c.take_flips.new.watch c.take_turn.new.engine c.take_turn.new.watch).
    comes (moments-settle some-lines-are-enough lines-are-woken) (turns-make-ready lines-are-woken) c.args.plan.now c.args.turn c.args.engine.now c.take_flips.new.engine c.args.watch.now
    c.take_flips.new.watch c.take_turn.new.engine c.take_turn.new.watch c.in_ok-take_flips.ensures.takes c.turn.result c.turn.ensures h)
    c.take_turn.ensures.takes

pub returns-clause-few : goal.returns-clause-few
returns-clause-few g c =
    on_ok_weaker c.take_turn.result
    (few-more c.args.turn c.args.watch.now.counts c.take_flips.new.watch.counts c.take_turn.new.watch.counts c.in_ok-take_flips.ensures.counts c.requires.few)
    c.take_turn.ensures.few
