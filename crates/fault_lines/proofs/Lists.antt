-- Lists of flips in the order of their lines.
use Rattle.std.proofs.Common.{◌≡◌, ◌<◌, inl, inr, ℕ, List, [], ◌∷◌, refl, ap, subst, arith}
use Rattle.flip_plan.specs.declared.flip.PlannedFlip.{PlannedFlip}
use Rattle.fault_lines.specs.Lists.{IsIn, AreBehind, AreInOrder}

pub behind-in : (n : ℕ) (fs : List PlannedFlip) (f : PlannedFlip) → AreBehind n fs → IsIn fs f → n < f.number
behind-in n [] f h e = absurd e
behind-in n (g ∷ gs) f h (inl e) = subst (λ (x : PlannedFlip). n < x.number) e h.0
behind-in n (g ∷ gs) f h (inr e) = behind-in n gs f h.1 e

pub behind-all : (n : ℕ) (fs : List PlannedFlip) → ((f : PlannedFlip) → IsIn fs f → n < f.number) → AreBehind n fs
behind-all n [] h = tt
behind-all n (g ∷ gs) h = (h g (inl refl), behind-all n gs (λ f e. h f (inr e)))

-- the first of a list in order stands before none of it but itself
pub not-before-first : {P : Type 0} (f g : PlannedFlip) (gs : List PlannedFlip) → AreInOrder (g ∷ gs) → IsIn (g ∷ gs) f → f.number < g.number → P
not-before-first f g gs h (inl e) l = let q = ap (λ (x : PlannedFlip). x.number) e in absurd (omega arith)
not-before-first f g gs h (inr e) l = let q = behind-in g.number gs f h.0 e in absurd (omega arith)

-- nor is it among those behind it
pub not-behind : {P : Type 0} (f g : PlannedFlip) (gs : List PlannedFlip) → AreInOrder (g ∷ gs) → g ≡ f → IsIn gs f → P
not-behind f g gs h e i =
    let l = behind-in g.number gs f h.0 i in
    let q = ap (λ (x : PlannedFlip). x.number) e in
    absurd (omega arith)
