-- Of lines by their moments, those of a turn stand first.
use Rattle.std.specs.Prelude.{ℕ, nat_eq, List, [], ◌∷◌, if◌then◌else◌}
use Rattle.flip_plan.specs.declared.flip.PlannedFlip.{PlannedFlip}

abbrev pub first_of : ℕ → List PlannedFlip → List PlannedFlip
first_of turn [] = []
first_of turn (f ∷ fs) = if nat_eq f.moment turn then f ∷ first_of turn fs else []

abbrev pub rest_of : ℕ → List PlannedFlip → List PlannedFlip
rest_of turn [] = []
rest_of turn (f ∷ fs) = if nat_eq f.moment turn then rest_of turn fs else f ∷ fs
