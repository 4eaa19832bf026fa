use Rattle.std.proofs.Common.{◌≡◌, ◌≤◌}
use Rattle.step_machine.specs.Runs.{nothing_counted}
use Rattle.step_engine.specs.TurnRuns.{after_turns, counts_of, turns_in}
use Rattle.step_engine.proofs.engine.Engine.run.Given as goal

abbrev pub invariant-loop-index : goal.invariant-loop-index
invariant-loop-index g l =
    ((l.self, counts_of l.counts) ≡ after_turns (g.T.Turns.thread l.turns) (l.initial.self, nothing_counted) l.index)
    × (turns_in l.counts ≤ l.index)
