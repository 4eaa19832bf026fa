-- Lines in the order of their numbers, each number once.
use Rattle.std.specs.Prelude.{ℕ, nat_eq, nat_lt, List, [], ◌∷◌, if◌then◌else◌}
use Rattle.flip_plan.specs.declared.flip.PlannedFlip.{PlannedFlip}

-- with a line, in the place of the one that has its number
abbrev pub insert_in_order : PlannedFlip → List PlannedFlip → List PlannedFlip
insert_in_order f [] = f ∷ []
insert_in_order f (g ∷ gs) =
    if nat_lt f.number g.number then f ∷ g ∷ gs else (if nat_eq f.number g.number then f ∷ gs else g ∷ insert_in_order f gs)

-- with each of some lines
abbrev pub with_all : List PlannedFlip → List PlannedFlip → List PlannedFlip
with_all [] due = due
with_all (f ∷ fs) due = with_all fs (insert_in_order f due)
