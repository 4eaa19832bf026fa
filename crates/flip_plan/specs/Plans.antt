-- Plans, and whose turn it is.
use Rattle.std.specs.Prelude.{◌≡◌, ℕ, suc, ◌+◌, ◌-◌, ◌%◌, ◌==◌, nat_lt, if◌then◌else◌, List, [], ◌∷◌, map, Option, Some, None, unwrap_or}
use Rattle.flip_plan.specs.declared.flip.PlannedFlip.{PlannedFlip}

-- turns of one thread, one behind the other
pub record Run : Type 0 where
  pub thread : ℕ
  pub count : ℕ

-- A plan: how many turns there are at most, the turns, the turns that then come again and again, and the flips in the
-- order of their lines.
pub record PlanMeaning : Type 0 where
  pub limit : ℕ
  pub turns : List Run
  pub cycle : List Run
  pub flips : List PlannedFlip

-- Flips have the numbers from this one on, in order. Those of a plan have them from 1 on.
abbrev pub IsNumbered : ℕ → List PlannedFlip → Type 0
IsNumbered n [] = Unit {0}
IsNumbered n (f ∷ fs) = (f.number ≡ n) × IsNumbered (suc n) fs

abbrev pub total : List Run → ℕ
total [] = 0
total (run ∷ runs) = run.count + total runs

-- the thread of a turn, counted from 0, where there are so many turns
abbrev pub thread_at : List Run → ℕ → Option ℕ
thread_at [] index = None
thread_at (run ∷ runs) index = if nat_lt index run.count then Some run.thread else thread_at runs (index - run.count)

-- the thread of a turn of the cycle, counted from its first beginning
abbrev pub cycle_at : List Run → ℕ → ℕ
cycle_at cycle index = if total cycle == 0 then 0 else unwrap_or (thread_at cycle (index % total cycle)) 0

abbrev pub turn_by : PlanMeaning → ℕ → Option ℕ → ℕ
turn_by plan index (Some thread) = thread
turn_by plan index None = cycle_at plan.cycle (index - total plan.turns)

-- whose turn it is: the turns in order, and behind them those of the cycle
abbrev pub turn_of : PlanMeaning → ℕ → ℕ
turn_of plan index = turn_by plan index (thread_at plan.turns index)

-- the cycle of a plan that gives none: threads 0 to 7
abbrev pub one_each : List ℕ → List Run
one_each threads = map (λ thread. record { thread = thread; count = 1 }) threads

abbrev pub default_cycle : List Run
default_cycle = one_each (0 ∷ 1 ∷ 2 ∷ 3 ∷ 4 ∷ 5 ∷ 6 ∷ 7 ∷ [])

-- the plan where none is given
abbrev pub default_plan : PlanMeaning
default_plan = record { limit = 1000000; turns = []; cycle = default_cycle; flips = [] }
