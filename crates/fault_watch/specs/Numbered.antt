-- Lines that stand under their numbers.
use Rattle.std.specs.Prelude.{◌≡◌, ℕ, List, [], ◌∷◌}
use Rattle.flip_plan.specs.declared.flip.PlannedFlip.{PlannedFlip}

abbrev pub AreNumbered : List (ℕ × PlannedFlip) → Type 0
AreNumbered [] = Unit {0}
AreNumbered (e ∷ es) = (e.0 ≡ e.1.number) × AreNumbered es
