use Rattle.std.proofs.Common.{◌≡◌, ◌≤◌, ◌∙◌, sym, arith, true}
use Rattle.step_engine.specs.TurnRuns.{is_running}
use Rattle.plan_runs.proofs.Starts.{begins, none-counted}
use Rattle.plan_runs.proofs.Overs.{stands-over, stands-next}
use Rattle.plan_runs.proofs.runs.take_moments.Goals as goal

pub loop-turn-init : goal.loop-turn-init
loop-turn-init g c = record {
  stands = begins c.args.plan.now c.args.engine.now c.args.watch.now c.requires;
  few = none-counted c.args.watch.now.counts c.requires.counts;
}

pub loop-turn-preserved : goal.loop-turn-preserved
loop-turn-preserved g c = record {
  stands = stands-next c.args.plan.now c.args.engine.now c.loop-turn.turn c.loop-turn.engine c.loop-turn.watch c.take_moment.new.engine
      c.take_moment.new.watch (sym c.is_running.ensures ∙ c.if-not-is_running.false) c.in_ok-take_moment.ensures.comes c.loop-turn.invariant.stands;
  few = c.in_ok-take_moment.ensures.few;
}

pub returns-then-not-is_running-clause-runs : goal.returns-then-not-is_running-clause-runs
returns-then-not-is_running-clause-runs g c =
    let l : c.loop-turn.turn ≤ c.args.plan.now.limit = omega arith in
    stands-over c.args.plan.now c.args.engine.now c.loop-turn.turn c.loop-turn.engine c.loop-turn.watch l
    (sym c.is_running.ensures ∙ c.if-not-is_running.true) c.loop-turn.invariant.stands
