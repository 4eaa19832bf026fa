-- A turn of a run by a plan.
use Rattle.std.specs.Prelude.{◌≡◌, ℕ}
use Rattle.step_machine.specs.Turn.{thread_at}
use Rattle.step_machine.specs.Machine.{Machine, next}
use Rattle.step_engine.specs.TurnRuns.{turns_in}
use Rattle.fault_model.specs.Progress.{Progress, with_turn}
use Rattle.fault_lines.specs.Marks.{cleared_by}
use Rattle.fault_lines.specs.Keeping.{Takes}
use Rattle.fault_watch.specs.MarkSets.{has}
use Rattle.plan_runs.specs.Watches.{Watched, StandsAt}

pub record LeavesParts (m : Machine) (thread : ℕ) (w after : Watched) : Type 0 where
  pub marks : has after.marks ≡ cleared_by m.setting (thread_at m.threads thread) (has w.marks)
  pub all_else : after ≡ record w { marks = after.marks }

pub record TakesTurn (thread : ℕ) (m : Machine) (w : Watched) (now : Machine) (after : Watched) : Type 0 where
  pub machine : now ≡ (next m thread).0
  pub stands : (p : Progress) → StandsAt p m w → StandsAt (with_turn thread p) now after
  pub takes : Takes m thread w.queues after.queues
