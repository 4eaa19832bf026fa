-- What holds of every run by a plan.
use Rattle.std.specs.Prelude.{◌≡◌, ℕ, ◌+◌, []}
use Rattle.flip_plan.specs.Plans.{PlanMeaning}
use Rattle.step_machine.specs.Machine.{Machine}
use Rattle.step_machine.specs.Total.{reading}
use Rattle.step_machine.specs.Runs.{Ran}
use Rattle.fault_model.specs.Progress.{Progress}
use Rattle.plan_runs.specs.Runs.{planned, unflipped}
use Rattle.plan_runs.specs.Reports.{report_of, report_of_run}

-- A run by a plan comes to what a run without flips comes to.
pub record IsUnflipped (p : Progress) (r : Ran) : Type 0 where
  pub total : p.total ≡ reading r.0
  pub counts : p.counts ≡ r.1
  pub flips : p.flips ≡ 0

-- a plan without flips runs as if they were set aside
abbrev pub RunsUnflipped : Type 0
RunsUnflipped = (plan : PlanMeaning) (m : Machine) → plan.flips ≡ [] → IsUnflipped (planned plan m) (unflipped plan m)

-- every turn is of one kind
pub record AddsUp : Type 0 where
  pub planned : (p : Progress) → (report_of_run p).turns ≡ p.counts.source + p.counts.inserted + p.counts.blocked + p.counts.idle
  pub unflipped : (r : Ran) (flips : ℕ) → (report_of r flips).turns ≡ r.1.source + r.1.inserted + r.1.blocked + r.1.idle
