-- The numbers of flips.
use Rattle.std.proofs.Common.{◌≡◌, ℕ, suc, ◌+◌, List, [], ◌∷◌, ◌++◌, length, arith}
use Rattle.flip_plan.specs.declared.flip.PlannedFlip.{PlannedFlip}
use Rattle.flip_plan.specs.Plans.{IsNumbered}

-- a flip more has the number behind theirs
pub numbered_push : (n : ℕ) (fs : List PlannedFlip) (f : PlannedFlip) → IsNumbered n fs → f.number ≡ length fs + n → IsNumbered n (fs ++ f ∷ [])
numbered_push n [] f h e = (omega (arith, e), tt)
numbered_push n (g ∷ fs) f h e = (h.0, numbered_push (suc n) fs f h.1 (omega (arith, e)))
