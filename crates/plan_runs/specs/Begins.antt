-- A watch before the first turn.
use Rattle.std.specs.Prelude.{◌≡◌, ℕ, [], Option, None}
use Rattle.agxx_base.specs.declared.ids.ClassId.{ClassId}
use Rattle.flip_plan.specs.Plans.{PlanMeaning, IsNumbered}
use Rattle.step_machine.specs.Runs.{nothing_counted}
use Rattle.step_engine.specs.TurnRuns.{counts_of}
use Rattle.fault_model.specs.declared.verdict.Verdict.TheVariants.{Admissible}
use Rattle.fault_lines.specs.Marks.{no_marks}
use Rattle.fault_lines.specs.Waiting.{NoLineWaits}
use Rattle.fault_watch.specs.MarkSets.{has}
use Rattle.plan_runs.specs.Flips.{IsLeft}
use Rattle.plan_runs.specs.Watches.{Watched}

pub record IsBegun (plan : PlanMeaning) (w : Watched) : Type 0 where
  pub left : IsLeft plan.flips 0 w.queues.left
  pub numbered : IsNumbered 1 plan.flips
  pub none_due : w.queues.due ≡ []
  pub none_waits : NoLineWaits w.queues.waiting
  pub no_marks_yet : has w.marks ≡ no_marks
  pub verdict : w.verdict ≡ Admissible
  pub flips : w.flips ≡ 0
  pub counts : counts_of w.counts ≡ nothing_counted
  pub erased : w.erased ≡ []
