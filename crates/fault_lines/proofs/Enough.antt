-- Lines that are enough, and lines that stay, by the first line and those behind it.
use Rattle.std.proofs.Common.{◌≡◌, ◌<◌, ◌⊎◌, inl, inr, ℕ, nat_le, List, [], ◌∷◌, Bool, true, false, ◌&&◌, refl, ap, sym, subst, ◌∙◌, arith}
use Rattle.std.proofs.lemmas.Bool.Decides.{nat_tests}
use Rattle.agxx_base.specs.declared.ids.ClassId.{ClassId}
use Rattle.flip_plan.specs.declared.flip.PlannedFlip.{PlannedFlip}
use Rattle.fault_model.specs.PlanLines.{PlanLine, flip_of, line_of, line_by}
use Rattle.fault_model.specs.Admissible.{is_admissible}
use Rattle.fault_model.specs.Progress.{Progress, falls, with_line}
use Rattle.fault_lines.specs.Lists.{IsIn, AreInOrder}
use Rattle.fault_lines.specs.Lines.{IsOn, Inverts, IsCovered, IsPassed, AreEnough, Stay}
use Rattle.fault_lines.proofs.Lists.{behind-in, behind-all, not-behind}
use Rattle.fault_lines.proofs.Flips.{blocked-flip, on-after, inverts-after}
use Rattle.fault_lines.proofs.Covered.{falls-waiting, covered}

-- ---- a line that is gone through

pub blocked-line : (b : Bool) (line : PlanLine) (p : Progress) (f : PlannedFlip) → is_admissible p.total p.hits f ≡ false
    → is_admissible (with_line b line p).total (with_line b line p).hits f ≡ false
blocked-line true line p f e = blocked-flip (flip_of line) p f e
blocked-line false line p f e = e

on-line : (b : Bool) (line : PlanLine) (p : Progress) (class : ClassId) (f : PlannedFlip) → IsOn p.total class f
    → IsOn (with_line b line p).total class f
on-line true line p class f h = on-after class (flip_of line) p f h
on-line false line p class f h = h

inverts-line : (b : Bool) (line : PlanLine) (p : Progress) (f : PlannedFlip) → Inverts p.total f → Inverts (with_line b line p).total f
inverts-line true line p f h = inverts-after (flip_of line) p f h
inverts-line false line p f h = h

covered-line : (b : Bool) (line : PlanLine) (i : ℕ) (p : Progress) (on gs : List PlannedFlip) (f : PlannedFlip) (c : IsCovered i p.total on f)
    → IsIn gs c.first → IsCovered i (with_line b line p).total gs f
covered-line b line i p on gs f c h = record {
  waits = c.waits;
  first = c.first;
  is_in = h;
  first_waits = c.first_waits;
  in_force = c.in_force;
  before = c.before;
  inverts = inverts-line b line p c.first c.inverts;
  object = c.object;
  class = c.class;
  first_on = on-line b line p c.class c.first c.first_on;
  this_on = on-line b line p c.class f c.this_on;
}

-- ---- lines behind the first, where that is gone through

covered-first : (b : Bool) (i : ℕ) (p : Progress) (on : List PlannedFlip) (h f : PlannedFlip) (c : IsCovered i p.total on f) → h ≡ c.first
    → falls i p (line_of h) ≡ b → is_admissible (with_line b (line_of h) p).total (with_line b (line_of h) p).hits f ≡ false
covered-first b i p on h f c e q =
    subst (λ x. falls i p (line_of x) ≡ b → is_admissible (with_line b (line_of x) p).total (with_line b (line_of x) p).hits f ≡ false) (sym e)
    (λ r. covered i p c.class c.first f c.first_waits c.in_force c.object c.first_on c.this_on c.inverts b r) q

passed-next : (b : Bool) (i : ℕ) (p : Progress) (h : PlannedFlip) (gs : List PlannedFlip) (f : PlannedFlip) → falls i p (line_of h) ≡ b
    → IsPassed i p (h ∷ gs) f → IsPassed i (with_line b (line_of h) p) gs f
passed-next b i p h gs f q (inl d) = inl d
passed-next b i p h gs f q (inr (inl k)) = inr (inl (k.0, blocked-line b (line_of h) p f k.1))
passed-next b i p h gs f q (inr (inr c)) = go c.is_in
  where
    go : IsIn (h ∷ gs) c.first → IsPassed i (with_line b (line_of h) p) gs f
    go (inl e) = inr (inl (c.waits, covered-first b i p (h ∷ gs) h f c e q))
    go (inr k) = inr (inr (covered-line b (line_of h) i p (h ∷ gs) gs f c k))

pub enough-on : (b : Bool) (i : ℕ) (p : Progress) (h : PlannedFlip) (hs gs : List PlannedFlip) → falls i p (line_of h) ≡ b
    → AreEnough i p (h ∷ hs) (h ∷ gs) → AreEnough i (with_line b (line_of h) p) hs gs
enough-on b i p h hs gs q e = record {
  ahead_order = e.ahead_order.1;
  on_order = e.on_order.1;
  on_ahead = λ f k. on f k (e.on_ahead f (inr k));
  others = λ f k. other f k (e.others f (inr k));
}
  where
    on : (f : PlannedFlip) → IsIn gs f → IsIn (h ∷ hs) f → IsIn hs f
    on f k (inl s) = not-behind f h gs e.on_order s k
    on f k (inr s) = s

    other : (f : PlannedFlip) → IsIn hs f → IsIn (h ∷ gs) f ⊎ IsPassed i p (h ∷ gs) f → IsIn gs f ⊎ IsPassed i (with_line b (line_of h) p) gs f
    other f k (inl (inl s)) = not-behind f h hs e.ahead_order s k
    other f k (inl (inr s)) = inl s
    other f k (inr s) = inr (passed-next b i p h gs f q s)

-- ---- where it isn't

-- a line stands before all of these
abbrev pub IsBefore : PlannedFlip → List PlannedFlip → Type 0
IsBefore h on = (f : PlannedFlip) → IsIn on f → h.number < f.number

not-itself : {P : Type 0} (h f : PlannedFlip) → h ≡ f → h.number < f.number → P
not-itself h f e l = let q = ap (λ (x : PlannedFlip). x.number) e in absurd (omega arith)

pub before-all : (h g : PlannedFlip) (hs gs : List PlannedFlip) → AreInOrder (h ∷ hs) → AreInOrder (g ∷ gs) → IsIn hs g → IsBefore h (g ∷ gs)
before-all h g hs gs a o k = λ f j. go f (behind-in h.number hs g a.0 k) j
  where
    go : (f : PlannedFlip) → h.number < g.number → IsIn (g ∷ gs) f → h.number < f.number
    go f l (inl e) = subst (λ (x : PlannedFlip). h.number < x.number) e l
    go f l (inr j) = let m = behind-in g.number gs f o.0 j in omega arith

pub enough-off : (i : ℕ) (p : Progress) (h : PlannedFlip) (hs on : List PlannedFlip) → IsBefore h on → AreEnough i p (h ∷ hs) on → AreEnough i p hs on
enough-off i p h hs on l e = record {
  ahead_order = e.ahead_order.1;
  on_order = e.on_order;
  on_ahead = λ f k. go f k (e.on_ahead f k);
  others = λ f k. e.others f (inr k);
}
  where
    go : (f : PlannedFlip) → IsIn on f → IsIn (h ∷ hs) f → IsIn hs f
    go f k (inl s) = not-itself h f s (l f k)
    go f k (inr s) = s

too-early : (m i : ℕ) → i < m → nat_le m i ≡ false
too-early m i h = grind (arith, nat_tests)

and-false : (b : Bool) → (b && false) ≡ false
and-false true = refl
and-false false = refl

passed-stays : (i : ℕ) (p : Progress) (on : List PlannedFlip) (h : PlannedFlip) → IsBefore h on → IsPassed i p on h → falls i p (line_of h) ≡ false
passed-stays i p on h l (inl (inl d)) = ap (λ b. falls i p (line_by b h)) d.0 ∙ d.1
passed-stays i p on h l (inl (inr d)) =
    falls-waiting i p h d.0 ∙ ap (λ b. b && is_admissible p.total p.hits h) (too-early h.moment i d.1)
passed-stays i p on h l (inr (inl k)) =
    falls-waiting i p h k.0 ∙ ap (λ b. nat_le h.moment i && b) k.1 ∙ and-false (nat_le h.moment i)
passed-stays i p on h l (inr (inr c)) =
    let x = l c.first c.is_in in
    let y = c.before in
    absurd (omega arith)

-- a line that isn't gone through stays
pub stays-off : (i : ℕ) (p : Progress) (h : PlannedFlip) (hs on : List PlannedFlip) → IsBefore h on → AreEnough i p (h ∷ hs) on
    → falls i p (line_of h) ≡ false
stays-off i p h hs on l e = go (e.others h (inl refl))
  where
    go : IsIn on h ⊎ IsPassed i p on h → falls i p (line_of h) ≡ false
    go (inl k) = not-itself h h refl (l h k)
    go (inr k) = passed-stays i p on h l k

-- ---- the lines that stay

pub stay-none : Stay [] [] [] []
stay-none = record {
  order = tt;
  kept_on = λ f k. k;
  of_left = λ f k. absurd k;
  to_left = λ f k c. k;
}

-- the first fell
pub stay-fell : (h : PlannedFlip) (hs gs left kept : List PlannedFlip) → AreInOrder (h ∷ hs) → AreInOrder (h ∷ gs) → Stay hs gs left kept
    → Stay (h ∷ hs) (h ∷ gs) left kept
stay-fell h hs gs left kept a o s = record {
  order = s.order;
  kept_on = λ f k. inr (s.kept_on f k);
  of_left = λ f k. let x = s.of_left f k in (inr x.0, of-on f x.0 x.1);
  to_left = to;
}
  where
    of-on : (f : PlannedFlip) → IsIn hs f → (IsIn gs f → IsIn kept f) → IsIn (h ∷ gs) f → IsIn kept f
    of-on f k c (inl e) = not-behind f h hs a e k
    of-on f k c (inr j) = c j

    to : (f : PlannedFlip) → IsIn (h ∷ hs) f → (IsIn (h ∷ gs) f → IsIn kept f) → IsIn left f
    to f (inl e) c = not-behind f h gs o e (s.kept_on f (c (inl e)))
    to f (inr k) c = s.to_left f k (λ j. c (inr j))

-- those behind the first, and so that in front of them
in-order : (h : PlannedFlip) (hs on left kept : List PlannedFlip) → AreInOrder (h ∷ hs) → Stay hs on left kept → AreInOrder (h ∷ left)
in-order h hs on left kept a s =
    (behind-all h.number left (λ f k. behind-in h.number hs f a.0 (s.of_left f k).0), s.order)

-- it was gone through, and stays
pub stay-kept : (h : PlannedFlip) (hs gs left kept : List PlannedFlip) → AreInOrder (h ∷ hs) → Stay hs gs left kept
    → Stay (h ∷ hs) (h ∷ gs) (h ∷ left) (h ∷ kept)
stay-kept h hs gs left kept a s = record {
  order = in-order h hs gs left kept a s;
  kept_on = on;
  of_left = of;
  to_left = to;
}
  where
    on : (f : PlannedFlip) → IsIn (h ∷ kept) f → IsIn (h ∷ gs) f
    on f (inl e) = inl e
    on f (inr k) = inr (s.kept_on f k)

    of-on : (f : PlannedFlip) → (IsIn gs f → IsIn kept f) → IsIn (h ∷ gs) f → IsIn (h ∷ kept) f
    of-on f c (inl e) = inl e
    of-on f c (inr j) = inr (c j)

    of : (f : PlannedFlip) → IsIn (h ∷ left) f → IsIn (h ∷ hs) f × (IsIn (h ∷ gs) f → IsIn (h ∷ kept) f)
    of f (inl e) = (inl e, λ j. inl e)
    of f (inr k) = let x = s.of_left f k in (inr x.0, of-on f x.1)

    less : (f : PlannedFlip) → IsIn hs f → IsIn (h ∷ kept) f → IsIn kept f
    less f k (inl e) = not-behind f h hs a e k
    less f k (inr j) = j

    to : (f : PlannedFlip) → IsIn (h ∷ hs) f → (IsIn (h ∷ gs) f → IsIn (h ∷ kept) f) → IsIn (h ∷ left) f
    to f (inl e) c = inl e
    to f (inr k) c = inr (s.to_left f k (λ j. less f k (c (inr j))))

-- it wasn't gone through
pub stay-off : (h : PlannedFlip) (hs on left kept : List PlannedFlip) → AreInOrder (h ∷ hs) → IsBefore h on → Stay hs on left kept
    → Stay (h ∷ hs) on (h ∷ left) kept
stay-off h hs on left kept a l s = record {
  order = in-order h hs on left kept a s;
  kept_on = s.kept_on;
  of_left = of;
  to_left = to;
}
  where
    of : (f : PlannedFlip) → IsIn (h ∷ left) f → IsIn (h ∷ hs) f × (IsIn on f → IsIn kept f)
    of f (inl e) = (inl e, λ j. not-itself h f e (l f j))
    of f (inr k) = let x = s.of_left f k in (inr x.0, x.1)

    to : (f : PlannedFlip) → IsIn (h ∷ hs) f → (IsIn on f → IsIn kept f) → IsIn (h ∷ left) f
    to f (inl e) c = inl e
    to f (inr k) c = inr (s.to_left f k c)
