-- Lists of flips, in the order of their lines.
use Rattle.std.specs.Prelude.{◌≡◌, ◌<◌, ◌⊎◌, ℕ, List, [], ◌∷◌}
use Rattle.flip_plan.specs.declared.flip.PlannedFlip.{PlannedFlip}

-- one of them
abbrev pub IsIn : List PlannedFlip → PlannedFlip → Type 0
IsIn [] f = ⊥
IsIn (g ∷ gs) f = (g ≡ f) ⊎ IsIn gs f

-- the numbers of all of them are greater than this
abbrev pub AreBehind : ℕ → List PlannedFlip → Type 0
AreBehind n [] = Unit {0}
AreBehind n (f ∷ fs) = (n < f.number) × AreBehind n fs

-- each has a greater number than those before it
abbrev pub AreInOrder : List PlannedFlip → Type 0
AreInOrder [] = Unit {0}
AreInOrder (f ∷ fs) = AreBehind f.number fs × AreInOrder fs
