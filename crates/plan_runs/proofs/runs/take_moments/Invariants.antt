use Rattle.std.proofs.Common.{◌≤◌}
use Rattle.step_engine.specs.TurnRuns.{turns_in}
use Rattle.plan_runs.specs.Runs.{StandsBefore, progress_at}
use Rattle.plan_runs.proofs.runs.take_moments.Given as goal

abbrev pub invariant-loop-turn : goal.invariant-loop-turn
invariant-loop-turn g l = record {
  stands : StandsBefore l.turn (progress_at l.plan l.initial.engine l.turn) l.engine l.watch;
  few : turns_in l.watch.counts ≤ l.turn;
}
