-- Of lines that stand by their moments, those of a turn, and the rest.
use Rattle.std.proofs.Common.{◌≡◌, ◌≤◌, inl, inr, ℕ, suc, nat_eq, if◌then◌else◌, List, [], ◌∷◌, Bool, true, false, refl, ap, sym, subst, ◌∙◌, arith, suc-le-suc, zero-le}
use Rattle.std.specs.List.Sorted.{IsNonDecreasingBy}
use Rattle.std.proofs.lemmas.Bool.Decides.{nat_tests}
use Rattle.flip_plan.specs.declared.flip.PlannedFlip.{PlannedFlip}
use Rattle.fault_lines.specs.Lists.{IsIn}
use Rattle.fault_lines.specs.Moments.{first_of, rest_of}

abbrev pub moment : PlannedFlip → ℕ
moment f = f.moment

-- ---- tests of moments

pub same-moment : (m n : ℕ) → nat_eq m n ≡ true → m ≡ n
same-moment m n e = grind (arith, nat_tests)

later-moment : (m n : ℕ) → nat_eq m n ≡ false → n ≤ m → suc n ≤ m
later-moment m n e l = grind (arith, nat_tests)

apart-moments : {P : Type 0} (m n : ℕ) → nat_eq m n ≡ false → m ≡ n → P
apart-moments m n e q = absurd (grind (arith, nat_tests))

-- ---- lines that rise

tail-rises : (f : PlannedFlip) (fs : List PlannedFlip) → IsNonDecreasingBy moment (f ∷ fs) → IsNonDecreasingBy moment fs
tail-rises f fs h = λ i j d le lt. h (suc i) (suc j) d (suc-le-suc le) (suc-le-suc lt)

first-least : (f : PlannedFlip) (fs : List PlannedFlip) (g : PlannedFlip) → IsNonDecreasingBy moment (f ∷ fs) → IsIn fs g → f.moment ≤ g.moment
first-least f [] g h i = absurd i
first-least f (e ∷ es) g h i = go i (first-least e es g (tail-rises f (e ∷ es) h))
  where
    next : f.moment ≤ e.moment
    next = h 0 1 f zero-le (suc-le-suc (suc-le-suc zero-le))

    go : IsIn (e ∷ es) g → (IsIn es g → e.moment ≤ g.moment) → f.moment ≤ g.moment
    go (inl q) more = subst (λ (x : PlannedFlip). f.moment ≤ x.moment) q next
    go (inr k) more = let a = next in let b = more k in omega (arith, a, b)

-- ---- those of a turn

abbrev firsts : Bool → ℕ → PlannedFlip → List PlannedFlip → List PlannedFlip
firsts b turn f fs = if b then f ∷ first_of turn fs else []

abbrev rests : Bool → ℕ → PlannedFlip → List PlannedFlip → List PlannedFlip
rests b turn f fs = if b then rest_of turn fs else f ∷ fs

pub from-first : (turn : ℕ) (fs : List PlannedFlip) (g : PlannedFlip) → IsIn (first_of turn fs) g → IsIn fs g × (g.moment ≡ turn)
from-first turn [] g i = absurd i
from-first turn (f ∷ fs) g i = go (nat_eq f.moment turn) refl (from-first turn fs g) i
  where
    go : (b : Bool) → nat_eq f.moment turn ≡ b → (IsIn (first_of turn fs) g → IsIn fs g × (g.moment ≡ turn)) → IsIn (firsts b turn f fs) g
        → IsIn (f ∷ fs) g × (g.moment ≡ turn)
    go true q more (inl e) = (inl e, ap moment (sym e) ∙ same-moment f.moment turn q)
    go true q more (inr e) = (inr (more e).0, (more e).1)
    go false q more e = absurd e

pub in-first : (turn : ℕ) (fs : List PlannedFlip) (g : PlannedFlip) → IsNonDecreasingBy moment fs → ((f : PlannedFlip) → IsIn fs f → turn ≤ f.moment)
    → IsIn fs g → g.moment ≡ turn → IsIn (first_of turn fs) g
in-first turn [] g h l i e = absurd i
in-first turn (f ∷ fs) g h l i e = go (nat_eq f.moment turn) refl (in-first turn fs g (tail-rises f fs h) (λ k j. l k (inr j))) i
  where
    go : (b : Bool) → nat_eq f.moment turn ≡ b → (IsIn fs g → g.moment ≡ turn → IsIn (first_of turn fs) g) → IsIn (f ∷ fs) g
        → IsIn (firsts b turn f fs) g
    go true q more (inl k) = inl k
    go true q more (inr k) = inr (more k e)
    go false q more (inl k) = apart-moments f.moment turn q (ap moment k ∙ e)
    go false q more (inr k) =
        let a = first-least f fs g h k in
        let b = later-moment f.moment turn q (l f (inl refl)) in
        absurd (omega (arith, a, b, e))

-- ---- the rest

pub rest-rises : (turn : ℕ) (fs : List PlannedFlip) → IsNonDecreasingBy moment fs → IsNonDecreasingBy moment (rest_of turn fs)
rest-rises turn [] h = h
rest-rises turn (f ∷ fs) h = go (nat_eq f.moment turn) (rest-rises turn fs (tail-rises f fs h))
  where
    go : (b : Bool) → IsNonDecreasingBy moment (rest_of turn fs) → IsNonDecreasingBy moment (rests b turn f fs)
    go true more = more
    go false more = h

pub from-rest : (turn : ℕ) (fs : List PlannedFlip) (g : PlannedFlip) → IsNonDecreasingBy moment fs → ((f : PlannedFlip) → IsIn fs f → turn ≤ f.moment)
    → IsIn (rest_of turn fs) g → IsIn fs g × (suc turn ≤ g.moment)
from-rest turn [] g h l i = absurd i
from-rest turn (f ∷ fs) g h l i = go (nat_eq f.moment turn) refl (from-rest turn fs g (tail-rises f fs h) (λ k j. l k (inr j))) i
  where
    go : (b : Bool) → nat_eq f.moment turn ≡ b → (IsIn (rest_of turn fs) g → IsIn fs g × (suc turn ≤ g.moment)) → IsIn (rests b turn f fs) g
        → IsIn (f ∷ fs) g × (suc turn ≤ g.moment)
    go true q more k = (inr (more k).0, (more k).1)
    go false q more (inl k) =
        (inl k, subst (λ (x : PlannedFlip). suc turn ≤ x.moment) k (later-moment f.moment turn q (l f (inl refl))))
    go false q more (inr k) =
        let a = first-least f fs g h k in
        let b = later-moment f.moment turn q (l f (inl refl)) in
        (inr k, omega (arith, a, b))

pub in-rest : (turn : ℕ) (fs : List PlannedFlip) (g : PlannedFlip) → IsIn fs g → suc turn ≤ g.moment → IsIn (rest_of turn fs) g
in-rest turn [] g i e = absurd i
in-rest turn (f ∷ fs) g i e = go (nat_eq f.moment turn) refl (in-rest turn fs g) i
  where
    go : (b : Bool) → nat_eq f.moment turn ≡ b → (IsIn fs g → suc turn ≤ g.moment → IsIn (rest_of turn fs) g) → IsIn (f ∷ fs) g
        → IsIn (rests b turn f fs) g
    go true q more (inl k) =
        let a = same-moment f.moment turn q in let b = ap moment k in absurd (omega (arith, a, b, e))
    go true q more (inr k) = more k e
    go false q more k = k
