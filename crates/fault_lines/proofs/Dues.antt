-- Lines that are put among others, in the order of their numbers.
use Rattle.std.proofs.Common.{◌≡◌, ◌<◌, ◌⊎◌, inl, inr, ℕ, nat_eq, nat_lt, if◌then◌else◌, List, [], ◌∷◌, Bool, true, false, refl, ap, sym, subst, ◌∙◌, arith}
use Rattle.std.proofs.lemmas.Bool.Decides.{nat_tests}
use Rattle.flip_plan.specs.declared.flip.PlannedFlip.{PlannedFlip}
use Rattle.fault_lines.specs.Lists.{IsIn, AreBehind, AreInOrder}
use Rattle.fault_lines.specs.Due.{insert_in_order, with_all}

-- ---- lines in order

behind-in : (n : ℕ) (fs : List PlannedFlip) (f : PlannedFlip) → AreBehind n fs → IsIn fs f → n < f.number
behind-in n [] f h e = absurd e
behind-in n (g ∷ gs) f h (inl e) = subst (λ (x : PlannedFlip). n < x.number) e h.0
behind-in n (g ∷ gs) f h (inr e) = behind-in n gs f h.1 e

behind-less : (n m : ℕ) (fs : List PlannedFlip) → n < m → AreBehind m fs → AreBehind n fs
behind-less n m [] l h = tt
behind-less n m (g ∷ gs) l h = (let k = h.0 in omega (arith, l, k), behind-less n m gs l h.1)

apart-by-number : {P : Type 0} (f g h : PlannedFlip) (hs : List PlannedFlip) → AreBehind h.number hs → h ≡ f → IsIn hs g → f.number ≡ g.number → P
apart-by-number f g h hs o a i e =
    let l = behind-in h.number hs g o i in
    let q = ap (λ (x : PlannedFlip). x.number) a in
    absurd (omega (arith, l, q, e))

-- the number tells which line it is
pub by-number : (fs : List PlannedFlip) (f g : PlannedFlip) → AreInOrder fs → IsIn fs f → IsIn fs g → f.number ≡ g.number → f ≡ g
by-number [] f g o i j e = absurd i
by-number (h ∷ hs) f g o (inl a) (inl b) e = sym a ∙ b
by-number (h ∷ hs) f g o (inl a) (inr b) e = apart-by-number f g h hs o.0 a b e
by-number (h ∷ hs) f g o (inr a) (inl b) e = apart-by-number g f h hs o.0 b a (sym e)
by-number (h ∷ hs) f g o (inr a) (inr b) e = by-number hs f g o.1 a b e

-- ---- one line more

-- before the first, in its place, or behind it
abbrev placed : Bool → Bool → PlannedFlip → PlannedFlip → List PlannedFlip → List PlannedFlip
placed before at f g gs = if before then f ∷ g ∷ gs else (if at then f ∷ gs else g ∷ insert_in_order f gs)

from-insert : (f : PlannedFlip) (fs : List PlannedFlip) (h : PlannedFlip) → IsIn (insert_in_order f fs) h → (f ≡ h) ⊎ IsIn fs h
from-insert f [] h (inl e) = inl e
from-insert f [] h (inr e) = absurd e
from-insert f (g ∷ gs) h i = go (nat_lt f.number g.number) (nat_eq f.number g.number) (from-insert f gs h) i
  where
    behind : (f ≡ h) ⊎ IsIn gs h → (f ≡ h) ⊎ IsIn (g ∷ gs) h
    behind (inl e) = inl e
    behind (inr e) = inr (inr e)

    go : (before at : Bool) → (IsIn (insert_in_order f gs) h → (f ≡ h) ⊎ IsIn gs h) → IsIn (placed before at f g gs) h → (f ≡ h) ⊎ IsIn (g ∷ gs) h
    go true at more (inl e) = inl e
    go true at more (inr e) = inr e
    go false true more (inl e) = inl e
    go false true more (inr e) = inr (inr e)
    go false false more (inl e) = inr (inl e)
    go false false more (inr e) = behind (more e)

in-insert : (f : PlannedFlip) (fs : List PlannedFlip) → IsIn (insert_in_order f fs) f
in-insert f [] = inl refl
in-insert f (g ∷ gs) = go (nat_lt f.number g.number) (nat_eq f.number g.number) (in-insert f gs)
  where
    go : (before at : Bool) → IsIn (insert_in_order f gs) f → IsIn (placed before at f g gs) f
    go true at more = inl refl
    go false true more = inl refl
    go false false more = inr more

same-number : (m n : ℕ) → nat_eq m n ≡ true → m ≡ n
same-number m n e = grind (arith, nat_tests)

still-in : (f : PlannedFlip) (fs : List PlannedFlip) (h : PlannedFlip) → (h.number ≡ f.number → h ≡ f) → IsIn fs h → IsIn (insert_in_order f fs) h
still-in f [] h same i = absurd i
still-in f (g ∷ gs) h same i = go (nat_lt f.number g.number) (nat_eq f.number g.number) refl (still-in f gs h same) i
  where
    go : (before at : Bool) → nat_eq f.number g.number ≡ at → (IsIn gs h → IsIn (insert_in_order f gs) h) → IsIn (g ∷ gs) h
        → IsIn (placed before at f g gs) h
    go true at q more k = inr k
    go false true q more (inl e) =
        inl (sym (same (ap (λ (x : PlannedFlip). x.number) (sym e) ∙ sym (same-number f.number g.number q))))
    go false true q more (inr e) = inr e
    go false false q more (inl e) = inl e
    go false false q more (inr e) = inr (more e)

is-before : (m n : ℕ) → nat_lt m n ≡ true → m < n
is-before m n e = grind (arith, nat_tests)

is-behind : (m n : ℕ) → nat_lt m n ≡ false → nat_eq m n ≡ false → n < m
is-behind m n e q = grind (arith, nat_tests)

behind-insert : (n : ℕ) (f : PlannedFlip) (fs : List PlannedFlip) → n < f.number → AreBehind n fs → AreBehind n (insert_in_order f fs)
behind-insert n f [] l h = (l, tt)
behind-insert n f (g ∷ gs) l h = go (nat_lt f.number g.number) (nat_eq f.number g.number) (behind-insert n f gs l h.1)
  where
    go : (before at : Bool) → AreBehind n (insert_in_order f gs) → AreBehind n (placed before at f g gs)
    go true at more = (l, h)
    go false true more = (l, h.1)
    go false false more = (h.0, more)

insert-order : (f : PlannedFlip) (fs : List PlannedFlip) → AreInOrder fs → AreInOrder (insert_in_order f fs)
insert-order f [] o = (tt, tt)
insert-order f (g ∷ gs) o = go (nat_lt f.number g.number) (nat_eq f.number g.number) refl refl (insert-order f gs o.1)
  where
    go : (before at : Bool) → nat_lt f.number g.number ≡ before → nat_eq f.number g.number ≡ at → AreInOrder (insert_in_order f gs)
        → AreInOrder (placed before at f g gs)
    go true at e q more =
        let l = is-before f.number g.number e in ((l, behind-less f.number g.number gs l o.0), o)
    go false true e q more =
        (subst (λ n. AreBehind n gs) (sym (same-number f.number g.number q)) o.0, o.1)
    go false false e q more = (behind-insert g.number f gs (is-behind f.number g.number e q) o.0, more)

-- ---- some lines more

pub all-order : (fs due : List PlannedFlip) → AreInOrder due → AreInOrder (with_all fs due)
all-order [] due o = o
all-order (f ∷ fs) due o = all-order fs (insert_in_order f due) (insert-order f due o)

pub from-all : (fs due : List PlannedFlip) (h : PlannedFlip) → IsIn (with_all fs due) h → IsIn fs h ⊎ IsIn due h
from-all [] due h i = inr i
from-all (f ∷ fs) due h i = go (from-all fs (insert_in_order f due) h i)
  where
    by : (f ≡ h) ⊎ IsIn due h → IsIn (f ∷ fs) h ⊎ IsIn due h
    by (inl e) = inl (inl e)
    by (inr e) = inr e

    go : IsIn fs h ⊎ IsIn (insert_in_order f due) h → IsIn (f ∷ fs) h ⊎ IsIn due h
    go (inl e) = inl (inr e)
    go (inr e) = by (from-insert f due h e)

-- none of some lines has the number of another line
abbrev pub TellsApart : List PlannedFlip → PlannedFlip → Type 0
TellsApart fs h = (g : PlannedFlip) → IsIn fs g → h.number ≡ g.number → h ≡ g

pub all-due : (fs due : List PlannedFlip) (h : PlannedFlip) → TellsApart fs h → IsIn due h → IsIn (with_all fs due) h
all-due [] due h same i = i
all-due (f ∷ fs) due h same i =
    all-due fs (insert_in_order f due) h (λ g k. same g (inr k)) (still-in f due h (same f (inl refl)) i)

pub all-new : (fs due : List PlannedFlip) (h : PlannedFlip) → TellsApart fs h → IsIn fs h → IsIn (with_all fs due) h
all-new [] due h same i = absurd i
all-new (f ∷ fs) due h same (inl e) =
    all-due fs (insert_in_order f due) h (λ g k. same g (inr k)) (subst (λ x. IsIn (insert_in_order f due) x) e (in-insert f due))
all-new (f ∷ fs) due h same (inr e) = all-new fs (insert_in_order f due) h (λ g k. same g (inr k)) e
