-- The lines `flip` and `free` of a plan.
use Rattle.std.specs.Prelude.{ℕ, Bool, true, false, List, map}
use Rattle.flip_plan.specs.declared.flip.PlannedFlip.{PlannedFlip}
use Rattle.flip_plan.specs.Plans.{PlanMeaning, turn_of}

pub data PlanLine : Type 0 where
  -- it falls at its moment
  flip : PlannedFlip → PlanLine
  -- it falls at the first moment, from its own on, at which it is admissible
  free : PlannedFlip → PlanLine

abbrev pub flip_of : PlanLine → PlannedFlip
flip_of (flip f) = f
flip_of (free f) = f

-- A plan: how many turns there are at most, whose each turn is, and the lines of flips in their order.
pub record FaultPlan : Type 0 where
  pub limit : ℕ
  pub turn : ℕ → ℕ
  pub lines : List PlanLine

abbrev pub line_by : Bool → PlannedFlip → PlanLine
line_by true f = free f
line_by false f = flip f

-- the line that gave a flip
abbrev pub line_of : PlannedFlip → PlanLine
line_of f = line_by f.waits f

-- the lines of a plan that was read
abbrev pub lines_of : PlanMeaning → List PlanLine
lines_of plan = map line_of plan.flips

abbrev pub fault_plan : PlanMeaning → FaultPlan
fault_plan plan = record { limit = plan.limit; turn = turn_of plan; lines = lines_of plan }
