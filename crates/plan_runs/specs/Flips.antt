-- Which lines are of the moment before a turn.
use Rattle.std.specs.Prelude.{◌≡◌, ◌≤◌, ℕ, nat_eq, List}
use Rattle.std.specs.List.{filter, All}
use Rattle.std.specs.List.Sorted.{IsNonDecreasingBy}
use Rattle.flip_plan.specs.declared.flip.PlannedFlip.{PlannedFlip}

-- in their order
abbrev pub falling : List PlannedFlip → ℕ → List PlannedFlip
falling flips turn = filter (λ f. nat_eq f.moment turn) flips

-- What is left of lines from a turn on, by their moments.
pub record IsLeft (flips : List PlannedFlip) (turn : ℕ) (left : List PlannedFlip) : Type 0 where
  pub rises : IsNonDecreasingBy (λ f. f.moment) left
  pub ahead : All (λ f. turn ≤ f.moment) left
  pub same : (later : ℕ) → turn ≤ later → falling left later ≡ falling flips later
