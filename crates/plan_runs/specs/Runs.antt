-- The run of a plan from a machine on.
use Rattle.std.specs.Prelude.{◌≡◌, ℕ, suc, List, map}
use Rattle.flip_plan.specs.declared.flip.PlannedFlip.{PlannedFlip}
use Rattle.flip_plan.specs.Plans.{PlanMeaning, turn_of}
use Rattle.step_machine.specs.Machine.{Machine}
use Rattle.step_machine.specs.Total.{reading}
use Rattle.step_machine.specs.Runs.{Ran}
use Rattle.step_engine.specs.TurnRuns.{run_of}
use Rattle.fault_model.specs.PlanLines.{line_of, fault_plan}
use Rattle.fault_model.specs.Progress.{Progress, before_first, after_turns, at_moment, planned_of}
use Rattle.fault_lines.specs.Keeping.{AreReady}
use Rattle.plan_runs.specs.Watches.{Watched, StandsAt}

abbrev pub planned : PlanMeaning → Machine → Progress
planned plan m = planned_of (fault_plan plan) (reading m) plan.limit

-- the same with the flips set aside
abbrev pub unflipped : PlanMeaning → Machine → Ran
unflipped plan m = run_of (turn_of plan) plan.limit m

-- A run stands at this before a turn, and the lines that haven't fallen are where they have to be.
pub record StandsBefore (turn : ℕ) (p : Progress) (m : Machine) (w : Watched) : Type 0 where
  pub stands : StandsAt p m w
  pub ahead : List PlannedFlip
  pub ahead_is : p.ahead ≡ map line_of ahead
  pub ready : AreReady turn p.total p.hits ahead w.queues

-- from wherever a run stands before a turn it comes to where it stands before the next one
abbrev pub ComesTo : PlanMeaning → ℕ → Machine → Watched → Machine → Watched → Type 0
ComesTo plan turn m w now after =
    (p : Progress) → StandsBefore turn p m w → StandsBefore (suc turn) (at_moment (fault_plan plan) turn p) now after

-- after so many turns of a run from a machine on
abbrev pub progress_at : PlanMeaning → Machine → ℕ → Progress
progress_at plan m turn = after_turns (fault_plan plan) (before_first (fault_plan plan) (reading m)) turn
