-- The lines of a moment that are gone through: they are enough, and each of them falls or waits.
use Rattle.std.proofs.Common.{◌≡◌, ◌<◌, ◌≤◌, ◌⊎◌, inl, inr, ℕ, nat_eq, nat_lt, nat_le, if◌then◌else◌, List, [], ◌∷◌, map, Bool, true, false, ◌&&◌, refl, ap, sym, ◌∙◌, arith, true≢false}
use Rattle.std.proofs.lemmas.Bool.Decides.{nat_tests}
use Rattle.flip_plan.specs.declared.flip.PlannedFlip.{PlannedFlip}
use Rattle.step_machine.specs.Total.{Total}
use Rattle.fault_model.specs.PlanLines.{flip_of, line_of}
use Rattle.fault_model.specs.Admissible.{Hits, is_admissible}
use Rattle.fault_model.specs.Progress.{Progress, falls}
use Rattle.fault_lines.specs.Lists.{IsIn}
use Rattle.fault_lines.specs.Due.{with_all}
use Rattle.fault_lines.specs.Moments.{first_of}
use Rattle.fault_lines.specs.Lines.{IsCovered, IsPassed, AreEnough, through, with_each}
use Rattle.fault_lines.specs.Keeping.{Queues, Waits, IsFiled, AreReady, with_due_line, with_due}
use Rattle.fault_lines.proofs.Dues.{by-number, all-order, from-all, all-due, all-new, TellsApart}
use Rattle.fault_lines.proofs.Lefts.{from-first, in-first}

-- ---- lines tell their flips

-- a line like this one that waits, or doesn't
abbrev waiting_so : Bool → PlannedFlip → PlannedFlip
waiting_so b f = record f { waits = b }

line-flip : (b : Bool) (f : PlannedFlip) → flip_of (line_of (waiting_so b f)) ≡ waiting_so b f
line-flip true f = refl
line-flip false f = refl

line-flips : (fs : List PlannedFlip) → map flip_of (map line_of fs) ≡ fs
line-flips [] = refl
line-flips (f ∷ fs) =
    ap (λ x. x ∷ map flip_of (map line_of fs)) (line-flip f.waits f) ∙ ap (λ l. f ∷ l) (line-flips fs)

pub same-flips : (fs gs : List PlannedFlip) → map line_of fs ≡ map line_of gs → fs ≡ gs
same-flips fs gs e = sym (line-flips fs) ∙ ap (map flip_of) e ∙ line-flips gs

-- ---- what is gone through

abbrev pub gone_through : ℕ → Queues → List PlannedFlip
gone_through turn q = with_all (first_of turn q.left) q.due

-- its moment is this one, or it waits since an earlier one
abbrev pub HasCome : ℕ → PlannedFlip → Type 0
HasCome turn f = (f.moment ≡ turn) ⊎ ((f.moment < turn) × (f.waits ≡ true))

clash : {P : Type 0} → true ≡ false → P
clash e = absurd (true≢false e)

in-time : (m n : ℕ) → m ≤ n → nat_le m n ≡ true
in-time m n l = grind (arith, nat_tests)

equal-test : (m n : ℕ) → m ≡ n → nat_eq m n ≡ true
equal-test m n e = grind (arith, nat_tests)

other-test : (m n : ℕ) → n < m → nat_eq m n ≡ false
other-test m n l = grind (arith, nat_tests)

pub come-by : (turn : ℕ) (f : PlannedFlip) → HasCome turn f → f.moment ≤ turn
come-by turn f (inl e) = omega (arith, e)
come-by turn f (inr k) = let l = k.0 in omega (arith, l)

falls-come : (turn : ℕ) (f : PlannedFlip) (p : Progress) → HasCome turn f
    → falls turn p (line_of f) ≡ (if f.waits then is_admissible p.total p.hits f else true)
falls-come turn f p h = go f.waits refl h
  where
    go : (b : Bool) → f.waits ≡ b → HasCome turn f
        → falls turn p (line_of (waiting_so b f)) ≡ (if b then is_admissible p.total p.hits f else true)
    go true e k = ap (λ x. x && is_admissible p.total p.hits f) (in-time f.moment turn (come-by turn f k))
    go false e (inl k) = equal-test f.moment turn k
    go false e (inr k) = clash (sym k.1 ∙ e)

pub each-due : (turn : ℕ) (fs : List PlannedFlip) (p : Progress) → ((f : PlannedFlip) → IsIn fs f → HasCome turn f) → with_each turn fs p ≡ with_due fs p
each-due turn [] p h = refl
each-due turn (f ∷ fs) p h =
    ap (λ b. with_each turn fs (through b f p)) (falls-come turn f p (h f (inl refl)))
    ∙ each-due turn fs (with_due_line f p) (λ g i. h g (inr i))

-- ---- of lines that are ready

module _ (turn : ℕ) (m : Total) (hits : Hits) (ahead : List PlannedFlip) (q : Queues) (r : AreReady turn m hits ahead q) where
  from-on : (f : PlannedFlip) → IsIn (gone_through turn q) f → (IsIn ahead f × (f.moment ≡ turn)) ⊎ IsIn q.due f
  from-on f i = go (from-all (first_of turn q.left) q.due f i)
    where
      go : IsIn (first_of turn q.left) f ⊎ IsIn q.due f → (IsIn ahead f × (f.moment ≡ turn)) ⊎ IsIn q.due f
      go (inl k) = let a = from-first turn q.left f k in inl ((r.left.is_in f a.0).0, a.1)
      go (inr k) = inr k

  pub on-ahead : (f : PlannedFlip) → IsIn (gone_through turn q) f → IsIn ahead f
  on-ahead f i = go (from-on f i)
    where
      go : (IsIn ahead f × (f.moment ≡ turn)) ⊎ IsIn q.due f → IsIn ahead f
      go (inl k) = k.0
      go (inr k) = (r.due_in f k).0

  pub on-come : (f : PlannedFlip) → IsIn (gone_through turn q) f → HasCome turn f
  on-come f i = go (from-on f i)
    where
      go : (IsIn ahead f × (f.moment ≡ turn)) ⊎ IsIn q.due f → HasCome turn f
      go (inl k) = inl k.1
      go (inr k) = let a = r.due_in f k in inr (a.1, (r.past f a.0 a.1).0)

  pub tells : (fs : List PlannedFlip) → ((g : PlannedFlip) → IsIn fs g → IsIn ahead g) → (f : PlannedFlip) → IsIn ahead f → TellsApart fs f
  tells fs h f i = λ g k e. by-number ahead f g r.order i (h g k) e

  first-ahead : (g : PlannedFlip) → IsIn (first_of turn q.left) g → IsIn ahead g
  first-ahead g k = (r.left.is_in g (from-first turn q.left g k).0).0

  pub due-on : (f : PlannedFlip) → IsIn q.due f → IsIn (gone_through turn q) f
  due-on f i =
      all-due (first_of turn q.left) q.due f (tells (first_of turn q.left) first-ahead f (r.due_in f i).0) i

  pub now-on : (f : PlannedFlip) → IsIn ahead f → f.moment ≡ turn → IsIn (gone_through turn q) f
  now-on f i e =
      all-new (first_of turn q.left) q.due f (tells (first_of turn q.left) first-ahead f i)
      (in-first turn q.left f r.left.rises (λ g k. (r.left.is_in g k).1) (r.left.has f i (omega (arith, e))) e)

  -- what waits and is gone through has its moment now, or is due
  pub waits-off : (f : PlannedFlip) → f.moment < turn → Waits q.waiting f → IsIn (gone_through turn q) f → ⊥
  waits-off f l w i = go (from-on f i)
    where
      go : (IsIn ahead f × (f.moment ≡ turn)) ⊎ IsIn q.due f → ⊥
      go (inl k) = let e = k.1 in absurd (omega (arith, l, e))
      go (inr k) = r.apart f k w

  -- what was gone through before is gone through again, or filed
  pub past-filed : (f : PlannedFlip) → IsIn ahead f → f.moment < turn → IsIn (gone_through turn q) f ⊎ IsFiled m q.waiting f
  past-filed f i l = go (r.past f i l).1
    where
      go : IsIn q.due f ⊎ (((is_admissible m hits f ≡ false) ⊎ IsCovered turn m q.due f) × IsFiled m q.waiting f)
          → IsIn (gone_through turn q) f ⊎ IsFiled m q.waiting f
      go (inl k) = inl (due-on f k)
      go (inr k) = inr k.1

  covered-on : (f : PlannedFlip) → IsCovered turn m q.due f → IsCovered turn m (gone_through turn q) f
  covered-on f c = record {
    waits = c.waits;
    first = c.first;
    is_in = due-on c.first c.is_in;
    first_waits = c.first_waits;
    in_force = c.in_force;
    before = c.before;
    inverts = c.inverts;
    object = c.object;
    class = c.class;
    first_on = c.first_on;
    this_on = c.this_on;
  }

-- ---- they are enough

later-passed : (turn : ℕ) (p : Progress) (on : List PlannedFlip) (f : PlannedFlip) → turn < f.moment → IsPassed turn p on f
later-passed turn p on f l = go f.waits refl
  where
    go : (b : Bool) → f.waits ≡ b → IsPassed turn p on f
    go true e = inl (inr (e, l))
    go false e = inl (inl (e, other-test f.moment turn l))

module _ (turn : ℕ) (p : Progress) (ahead : List PlannedFlip) (q : Queues) (r : AreReady turn p.total p.hits ahead q) where
  past-passed : (f : PlannedFlip) → IsIn ahead f → f.moment < turn → IsIn (gone_through turn q) f ⊎ IsPassed turn p (gone_through turn q) f
  past-passed f i l = go (r.past f i l).1
    where
      by : (is_admissible p.total p.hits f ≡ false) ⊎ IsCovered turn p.total q.due f → IsPassed turn p (gone_through turn q) f
      by (inl e) = inr (inl ((r.past f i l).0, e))
      by (inr c) = inr (inr (covered-on turn p.total p.hits ahead q r f c))

      go : IsIn q.due f ⊎ (((is_admissible p.total p.hits f ≡ false) ⊎ IsCovered turn p.total q.due f) × IsFiled p.total q.waiting f)
          → IsIn (gone_through turn q) f ⊎ IsPassed turn p (gone_through turn q) f
      go (inl k) = inl (due-on turn p.total p.hits ahead q r f k)
      go (inr k) = inr (by k.0)

  other : (f : PlannedFlip) → IsIn ahead f → IsIn (gone_through turn q) f ⊎ IsPassed turn p (gone_through turn q) f
  other f i = go (nat_lt turn f.moment) (nat_eq f.moment turn) refl refl
    where
      go : (later now : Bool) → nat_lt turn f.moment ≡ later → nat_eq f.moment turn ≡ now
          → IsIn (gone_through turn q) f ⊎ IsPassed turn p (gone_through turn q) f
      go true now e d = inr (later-passed turn p (gone_through turn q) f (grind (arith, nat_tests)))
      go false true e d = inl (now-on turn p.total p.hits ahead q r f i (grind (arith, nat_tests)))
      go false false e d = past-passed f i (grind (arith, nat_tests))

  pub enough : AreEnough turn p ahead (gone_through turn q)
  enough = record {
    ahead_order = r.order;
    on_order = all-order (first_of turn q.left) q.due r.due_order;
    on_ahead = on-ahead turn p.total p.hits ahead q r;
    others = other;
  }
