-- How many turns a run by a plan takes.
use Rattle.std.specs.Prelude.{◌≡◌, ◌≤◌, ℕ, ◌+◌, min, true}
use Rattle.step_machine.specs.Runs.{Counts}
use Rattle.step_machine.specs.Total.{Total}
use Rattle.fault_model.specs.PlanLines.{FaultPlan}
use Rattle.fault_model.specs.Progress.{is_running, planned_of}

-- of all kinds together
abbrev pub turns_in : Counts → ℕ
turns_in n = n.source + n.inserted + n.blocked + n.idle

pub record TurnsAreLimited : Type 0 where
  -- as many as the plan has at most,
  pub at_most : (plan : FaultPlan) (m : Total) (n : ℕ) → turns_in (planned_of plan m n).counts ≤ plan.limit
  -- and none but those that it was to take by then,
  pub by_then : (plan : FaultPlan) (m : Total) (n : ℕ) → turns_in (planned_of plan m n).counts ≤ n
  -- and just as many where it still goes on
  pub all : (plan : FaultPlan) (m : Total) (n : ℕ) → is_running (planned_of plan m n).total.state ≡ true → turns_in (planned_of plan m n).counts ≡ min n plan.limit
