-- Lines that are woken, one by one and some after others.
use Rattle.std.proofs.Common.{◌≡◌, ◌<◌, ◌≤◌, ◌⊎◌, inl, inr, ℕ, nat_eq, Bool, true, false, List, [], ◌∷◌, ◌++◌, Option, Some, None, if◌then◌else◌, refl, ap, sym, subst, ◌∙◌, arith}
use Rattle.std.proofs.lemmas.Bool.Decides.{nat_tests}
use Rattle.std.proofs.lemmas.Option.{same_Some}
use Rattle.agxx_base.specs.declared.ids.ClassId.{ClassId}
use Rattle.flip_plan.specs.declared.flip.PlannedFlip.{PlannedFlip}
use Rattle.step_machine.specs.Machine.{Machine}
use Rattle.step_machine.specs.Total.{reading}
use Rattle.step_machine.specs.Flips.{FlippedOf, flipped, flipped_of}
use Rattle.step_machine.proofs.Turns.{agree}
use Rattle.fault_lines.specs.Lists.{IsIn}
use Rattle.fault_lines.specs.Due.{insert_in_order, with_all}
use Rattle.fault_lines.specs.Waiting.{Waiter, is_spot, waits, TakesFirst, NoLineWaitsFor}
use Rattle.fault_lines.specs.Keeping.{AreSound, Waits}
use Rattle.fault_watch.proofs.Orders.{spot-tells, spot-itself}
use Rattle.fault_watch.proofs.Waits.{waits-own}
use Rattle.plan_runs.specs.Watches.{Watched, with_queues, with_due_lines, TakesOut}
use Rattle.plan_runs.specs.Wakings.{Wakes, AreLed, WakesPart, Empties}

-- Some lines are woken.
pub record WakesSome (w after : Watched) : Type 0 where
  pub taken : List PlannedFlip
  pub wakes : Wakes taken w after

-- ---- lists

with-both : (a b due : List PlannedFlip) → with_all (a ++ b) due ≡ with_all b (with_all a due)
with-both [] b due = refl
with-both (f ∷ fs) b due = with-both fs b (insert_in_order f due)

in-first : (a b : List PlannedFlip) (f : PlannedFlip) → IsIn a f → IsIn (a ++ b) f
in-first [] b f e = absurd e
in-first (g ∷ gs) b f (inl e) = inl e
in-first (g ∷ gs) b f (inr e) = inr (in-first gs b f e)

in-second : (a b : List PlannedFlip) (f : PlannedFlip) → IsIn b f → IsIn (a ++ b) f
in-second [] b f e = e
in-second (g ∷ gs) b f e = inr (in-second gs b f e)

in-either : (a b : List PlannedFlip) (f : PlannedFlip) → IsIn (a ++ b) f → IsIn a f ⊎ IsIn b f
in-either [] b f e = inr e
in-either (g ∷ gs) b f (inl e) = inl (inl e)
in-either (g ∷ gs) b f (inr e) = go (in-either gs b f e)
  where
    go : IsIn gs f ⊎ IsIn b f → IsIn (g ∷ gs) f ⊎ IsIn b f
    go (inl h) = inl (inr h)
    go (inr h) = inr h

-- ---- some after others

abbrev AreFewer : List Waiter → List Waiter → Type 0
AreFewer old new = (o : ℕ) (c : Option ClassId) (n : ℕ) (f : PlannedFlip) → waits new o c n ≡ Some f → waits old o c n ≡ Some f

fewer-sound : (old new : List Waiter) → AreFewer old new → AreSound old → AreSound new
fewer-sound old new h s = record {
  own = λ o c n f e. s.own o c n f (h o c n f e);
  once = λ o c d n f e k. s.once o c d n f (h o c n f e) (h o d n f k);
}

pub wakes-none : (w : Watched) → Wakes [] w w
wakes-none w = record {
  left = refl;
  due = refl;
  all_else = refl;
  waited = λ s f e. absurd e;
  gone = λ s f e h. e;
  fewer = λ o c n f e. e;
  rest = λ o c n f e. inl e;
}

module _ (a b : List PlannedFlip) (u v w : Watched) (x : Wakes a u v) (y : Wakes b v w) where
  still-sound : AreSound u.queues.waiting → AreSound v.queues.waiting
  still-sound s = fewer-sound u.queues.waiting v.queues.waiting x.fewer s

  waited-both : AreSound u.queues.waiting → (f : PlannedFlip) → IsIn a f ⊎ IsIn b f → Waits u.queues.waiting f
  waited-both s f (inl e) = x.waited s f e
  waited-both s f (inr e) = let h = y.waited (still-sound s) f e in (h.0, x.fewer f.object.0 h.0 f.number f h.1)

  gone-both : AreSound u.queues.waiting → (f : PlannedFlip) → IsIn a f ⊎ IsIn b f → Waits w.queues.waiting f → ⊥
  gone-both s f (inl e) h = x.gone s f e (h.0, y.fewer f.object.0 h.0 f.number f h.1)
  gone-both s f (inr e) h = y.gone (still-sound s) f e h

  rest-both : (o : ℕ) (c : Option ClassId) (n : ℕ) (f : PlannedFlip) → (waits v.queues.waiting o c n ≡ Some f) ⊎ IsIn a f
      → (waits w.queues.waiting o c n ≡ Some f) ⊎ IsIn (a ++ b) f
  rest-both o c n f (inr e) = inr (in-first a b f e)
  rest-both o c n f (inl e) = go (y.rest o c n f e)
    where
      go : (waits w.queues.waiting o c n ≡ Some f) ⊎ IsIn b f → (waits w.queues.waiting o c n ≡ Some f) ⊎ IsIn (a ++ b) f
      go (inl h) = inl h
      go (inr h) = inr (in-second a b f h)

  pub wakes-both : Wakes (a ++ b) u w
  wakes-both = record {
    left = y.left ∙ x.left;
    due = y.due ∙ ap (with_all b) x.due ∙ sym (with-both a b u.queues.due);
    all_else = y.all_else ∙ ap (with_queues w.queues) x.all_else;
    waited = λ s f e. waited-both s f (in-either a b f e);
    gone = λ s f e. gone-both s f (in-either a b f e);
    fewer = λ o c n f e. x.fewer o c n f (y.fewer o c n f e);
    rest = λ o c n f e. rest-both o c n f (x.rest o c n f e);
  }

  -- what is led before is led then, and what the later ones lead
  pub led-before : (m : Machine) (o : ℕ) (class : ClassId) → AreLed m a u v o class → AreLed m (a ++ b) u w o class
  led-before m o class l n f e =
      let h = l n f (y.fewer o (Some class) n f e) in
      record { first = h.first; is_in = in-first a b h.first h.is_in; waited = h.waited; before = h.before; inverts = h.inverts }

  pub led-later : (m : Machine) (o : ℕ) (class : ClassId) → AreLed m b v w o class → AreLed m (a ++ b) u w o class
  led-later m o class l n f e =
      let h = l n f e in
      record {
        first = h.first;
        is_in = in-second a b h.first h.is_in;
        waited = x.fewer o (Some class) h.first.number h.first h.waited;
        before = h.before;
        inverts = h.inverts;
      }

-- ---- one line

module _ (o : ℕ) (c : Option ClassId) (f : PlannedFlip) (old new : List Waiter) (t : TakesFirst o c f old new) where
  first-object : f.object.0 ≡ o
  first-object = (waits-own old o c f.number f t.0).0

  pub first-fewer : AreFewer old new
  first-fewer p d n g e = go (is_spot p d n o c f.number) (sym (t.2 p d n) ∙ e)
    where
      go : (b : Bool) → (if b then None else waits old p d n) ≡ Some g → waits old p d n ≡ Some g
      go true h = absurd cc
      go false h = h

  pub first-gone : waits new o c f.number ≡ None
  first-gone = t.2 o c f.number ∙ ap (λ b. if b then None else waits old o c f.number) (spot-itself o c f.number)

  not-first : {P : Type 0} (g : PlannedFlip) (d : Option ClassId) → d ≡ c → waits new o d f.number ≡ Some g → P
  not-first g d e h = let k : Some g ≡ None = sym h ∙ ap (λ x. waits new o x f.number) e ∙ first-gone in absurd cc

  waits-no-more : AreSound old → Waits new f → ⊥
  waits-no-more s h =
      let k : waits new o h.0 f.number ≡ Some f = sym (ap (λ p. waits new p h.0 f.number) first-object) ∙ h.1 in
      not-first f h.0 (s.once o h.0 c f.number f (first-fewer o h.0 f.number f k) t.0) k

  first-rest : (p : ℕ) (d : Option ClassId) (n : ℕ) (g : PlannedFlip) → waits old p d n ≡ Some g → (waits new p d n ≡ Some g) ⊎ IsIn (f ∷ []) g
  first-rest p d n g e = go (is_spot p d n o c f.number) refl
    where
      go : (b : Bool) → is_spot p d n o c f.number ≡ b → (waits new p d n ≡ Some g) ⊎ IsIn (f ∷ []) g
      go false q = inl (t.2 p d n ∙ ap (λ b. if b then None else waits old p d n) q ∙ e)
      go true q =
          let k = spot-tells p d n o c f.number q in
          let h : waits old p d n ≡ Some f =
          ap (λ x. waits old x d n) k.0 ∙ ap (λ x. waits old o x n) k.1 ∙ ap (waits old o c) k.2 ∙ t.0 in
          inr (inl (same_Some f g (sym h ∙ e)))

  -- what waits behind it has a greater number
  first-least : (n : ℕ) (g : PlannedFlip) → waits new o c n ≡ Some g → f.number < g.number
  first-least n g e = go (nat_eq f.number n) refl
    where
      number : g.number ≡ n
      number = (waits-own old o c n g (first-fewer o c n g e)).1

      least : f.number ≤ g.number
      least = t.1 n g (first-fewer o c n g e)

      apart : (i j k : ℕ) → i ≤ j → j ≡ k → nat_eq i k ≡ false → i < j
      apart i j k h e q = grind (arith, nat_tests)

      same : (i k : ℕ) → nat_eq i k ≡ true → k ≡ i
      same i k q = grind (arith, nat_tests)

      go : (b : Bool) → nat_eq f.number n ≡ b → f.number < g.number
      go false q = apart f.number g.number n least number q
      go true q = not-first g c refl (sym (ap (waits new o c) (same f.number n q)) ∙ e)

  first-waited : AreSound old → (g : PlannedFlip) → IsIn (f ∷ []) g → Waits old g
  first-waited s g (inr e) = absurd e
  first-waited s g (inl e) = subst (Waits old) e (c, ap (λ p. waits old p c f.number) first-object ∙ t.0)

  first-out : AreSound old → (g : PlannedFlip) → IsIn (f ∷ []) g → Waits new g → ⊥
  first-out s g (inr e) h = e
  first-out s g (inl e) h = waits-no-more s (subst (Waits new) (sym e) h)

wakes-first : (o : ℕ) (c : Option ClassId) (f : PlannedFlip) (w mid : Watched) → TakesOut o c f w mid
    → Wakes (f ∷ []) w (with_due_lines (insert_in_order f mid.queues.due) mid)
wakes-first o c f w mid t = record {
  left = ap (λ (x : Watched). x.queues.left) t.all_else;
  due = ap (λ (x : Watched). insert_in_order f x.queues.due) t.all_else;
  all_else = ap (with_due_lines (insert_in_order f mid.queues.due)) t.all_else
      ∙ ap (λ (x : Watched). with_queues (with_due_lines (insert_in_order f mid.queues.due) x).queues w) (sym t.all_else);
  waited = first-waited o c f w.queues.waiting mid.queues.waiting t.first;
  gone = first-out o c f w.queues.waiting mid.queues.waiting t.first;
  fewer = first-fewer o c f w.queues.waiting mid.queues.waiting t.first;
  rest = first-rest o c f w.queues.waiting mid.queues.waiting t.first;
}

wakes-one : (o : ℕ) (c : Option ClassId) (f : PlannedFlip) (w mid after : Watched) → TakesOut o c f w mid
    → after ≡ with_due_lines (insert_in_order f mid.queues.due) mid → Wakes (f ∷ []) w after
wakes-one o c f w mid after t e = subst (Wakes (f ∷ []) w) (sym e) (wakes-first o c f w mid t)

pub wakes-more : (o : ℕ) (c : Option ClassId) (f : PlannedFlip) (u w mid after : Watched) → WakesSome u w → TakesOut o c f w mid
    → after ≡ with_due_lines (insert_in_order f mid.queues.due) mid → WakesSome u after
wakes-more o c f u w mid after x t e = record {
  taken = x.taken ++ f ∷ [];
  wakes = wakes-both x.taken (f ∷ []) u w after x.wakes (wakes-one o c f w mid after t e);
}

-- ---- an object

pub empties-then : (o : ℕ) (u w after : Watched) → WakesSome u w → after ≡ w → NoLineWaitsFor o None w.queues.waiting → Empties o u after
empties-then o u w after x e h = subst (Empties o u) (sym e) (record { taken = x.taken; wakes = x.wakes; none = h })

-- ---- a part

pub no-line : {P : Type 0} (ws : List Waiter) (o : ℕ) (c : Option ClassId) (n : ℕ) (f : PlannedFlip) → NoLineWaitsFor o c ws → waits ws o c n ≡ Some f → P
no-line ws o c n f h e = let k : Some f ≡ None = sym e ∙ h n in absurd cc

pub part-then : (m : Machine) (o : ℕ) (class : ClassId) (u w after : Watched) → WakesSome u w → after ≡ w
    → NoLineWaitsFor o (Some class) w.queues.waiting → WakesPart m o class u after
part-then m o class u w after x e h =
    subst (WakesPart m o class u) (sym e)
    (record { taken = x.taken; wakes = x.wakes; led = λ n f k. no-line w.queues.waiting o (Some class) n f h k })

inverts-of : (m : Machine) (f : PlannedFlip) → (flipped f.object.0 f.word f.bit m).1 ≡ true
    → (flipped_of f.object.0 f.word f.bit (reading m)).1 ≡ true
inverts-of m f e = sym (ap (λ (z : FlippedOf). z.1) (agree.of_flip m f.object.0 f.word f.bit)) ∙ e

led-first : (m : Machine) (o : ℕ) (class : ClassId) (f : PlannedFlip) (w mid after : Watched) → TakesOut o (Some class) f w mid
    → after ≡ with_due_lines (insert_in_order f mid.queues.due) mid → (flipped f.object.0 f.word f.bit m).1 ≡ true
    → AreLed m (f ∷ []) w after o class
led-first m o class f w mid after t e i n g h = record {
  first = f;
  is_in = inl refl;
  waited = t.first.0;
  before = first-least o (Some class) f w.queues.waiting mid.queues.waiting t.first n g
      (sym (ap (λ (x : Watched). waits x.queues.waiting o (Some class) n) e) ∙ h);
  inverts = inverts-of m f i;
}

pub part-led : (m : Machine) (o : ℕ) (class : ClassId) (f : PlannedFlip) (u w mid after : Watched) → WakesSome u w
    → TakesOut o (Some class) f w mid → after ≡ with_due_lines (insert_in_order f mid.queues.due) mid
    → (flipped f.object.0 f.word f.bit m).1 ≡ true → WakesPart m o class u after
part-led m o class f u w mid after x t e i =
    let y = wakes-one o (Some class) f w mid after t e in
    record {
      taken = x.taken ++ f ∷ [];
      wakes = wakes-both x.taken (f ∷ []) u w after x.wakes y;
      led = led-later x.taken (f ∷ []) u w after x.wakes y m o class (led-first m o class f w mid after t e i);
    }
