-- A turn makes what was settled ready: what it may have made admissible is taken, or stands behind what is.
use Rattle.std.proofs.Common.{◌≡◌, ◌<◌, ◌⊎◌, inl, inr, ℕ, Bool, true, false, List, [], length, Option, Some, None, refl, ap, sym, subst, ◌∙◌, arith, true≢false}
use Rattle.std.specs.List.Sorted.{IsNonDecreasingBy}
use Rattle.agxx_base.specs.declared.ids.ClassId.{ClassId}
use Rattle.flip_plan.specs.declared.flip.PlannedFlip.{PlannedFlip}
use Rattle.step_machine.specs.Turn.{thread_at}
use Rattle.step_machine.specs.Machine.{Machine, next}
use Rattle.step_machine.specs.Total.{Total, reading}
use Rattle.fault_model.specs.Admissible.{Hits, while_out, is_admissible}
use Rattle.fault_model.specs.Stays.{is_top_on}
use Rattle.fault_lines.specs.Lists.{IsIn, AreInOrder}
use Rattle.fault_lines.specs.Due.{with_all}
use Rattle.fault_lines.specs.Waiting.{waits}
use Rattle.fault_lines.specs.Lines.{IsOn, IsCovered}
use Rattle.fault_lines.specs.Wakes.{LinesAreWoken, IsLeft, IsMade, IsFor}
use Rattle.fault_lines.specs.Keeping.{Queues, AreSound, AreWaiting, IsFiled, AreSettled, AreReady, IsLedBy, Takes, TurnsMakeReady}
use Rattle.fault_lines.proofs.Inserts.{with-all-order, with-all-from, with-all-has}

clash : {P : Type 0} (b : Bool) → b ≡ true → b ≡ false → P
clash b e q = absurd (true≢false (sym e ∙ q))

no-line : {P : Type 0} (x : Option PlannedFlip) (f : PlannedFlip) → x ≡ Some f → x ≡ None → P
no-line x f e q = cc (e, q)

not-last : {P : Type 0} (o n : ℕ) → o < n → o ≡ n → P
not-last o n l e = absurd (omega (arith, l, e))

module _ (w : LinesAreWoken) (n t : ℕ) (m : Machine) (hits : Hits) (ahead : List PlannedFlip) (q after : Queues)
    (s : AreSettled n (reading m) hits ahead q) (k : Takes m t q after) where
  -- the machine after the turn, and its hits
  abbrev now : Total
  now = reading (next m t).0

  abbrev hit : Hits
  hit = while_out now hits

  sound : AreSound q.waiting
  sound = record {
    own = λ o c number f e. let x = s.waiting o c number f e in (x.object, x.number_is);
    once = s.once;
  }

  -- ---- what is due

  taken-ahead : (f : PlannedFlip) → IsIn k.taken f → IsIn ahead f × (f.moment < n)
  taken-ahead f i =
      let h = k.waited sound f i in let x = s.waiting f.object.0 h.0 f.number f h.1 in (x.is_in, x.past)

  due-from : (f : PlannedFlip) → IsIn after.due f → IsIn k.taken f
  due-from f i = go (with-all-from f k.taken [] (subst (λ due. IsIn due f) (k.due ∙ ap (with_all k.taken) s.none_due) i))
    where
      go : IsIn k.taken f ⊎ IsIn [] f → IsIn k.taken f
      go (inl e) = e
      go (inr e) = absurd e

  to-due : (f : PlannedFlip) → IsIn k.taken f → IsIn after.due f
  to-due f i =
      subst (λ due. IsIn due f) (sym (k.due ∙ ap (with_all k.taken) s.none_due))
      (with-all-has ahead f k.taken [] s.order (λ x e. (taken-ahead x e).0) (λ x e. absurd e) (inl i))

  due-order : AreInOrder after.due
  due-order = subst AreInOrder (sym (k.due ∙ ap (with_all k.taken) s.none_due)) (with-all-order k.taken [] tt)

  -- ---- what waits on

  -- of what waits for an object none was made
  unmade : {P : Type 0} (o number : ℕ) (f : PlannedFlip) → waits after.waiting o None number ≡ Some f → f.object.0 ≡ o → IsMade m t f → P
  unmade o number f e same made =
      no-line (waits after.waiting o None number) f e
      (subst (λ p. waits after.waiting p None number ≡ None) (sym made.object ∙ same) (k.made made.made number))

  for-by : (o number : ℕ) (f : PlannedFlip) (c : Option ClassId) → waits after.waiting o c number ≡ Some f → f.object.0 ≡ o
      → IsFor (reading m) f c → IsFor now f c
  for-by o number f None e same h = go (w.keeps_unmade m t f h)
    where
      go : IsFor now f None ⊎ IsMade m t f → IsFor now f None
      go (inl x) = x
      go (inr x) = unmade o number f e same x
  for-by o number f (Some class) e same h = w.keeps_for m t f class h

  waiting : AreWaiting n now ahead after.waiting
  waiting o c number f e =
      let x = s.waiting o c number f (k.fewer o c number f e) in
      record { is_in = x.is_in; past = x.past; object = x.object; number_is = x.number_is; is_for = for-by o number f c e x.object x.is_for }

  -- ---- what is admissible, and isn't taken

  -- where a line is admissible, its object is live, and so is that of another for a part of it
  live-on : (f g : PlannedFlip) (class : ClassId) → is_admissible now hit f ≡ true → g.object.0 ≡ f.object.0
      → IsFor now g (Some class) → IsOn now class g
  live-on f g class a same h = go h.1
    where
      go : (now.class g.object.0 ≡ None) ⊎ IsOn now class g → IsOn now class g
      go (inl e) =
          clash (is_admissible now hit f) a
          (w.dead now hit f (subst (λ o. o < now.made) same h.0, inl (subst (λ o. now.class o ≡ None) same e)))
      go (inr on) = on

  led : (f : PlannedFlip) (class : ClassId) → f.waits ≡ true → is_admissible now hit f ≡ true → IsFor now f (Some class)
      → IsLedBy (next m t).0 k.taken q.waiting f.object.0 (Some class) f → IsCovered n now after.due f
  led f class free a h l =
      let x = s.waiting f.object.0 (Some class) l.first.number l.first l.waited in
      record {
        waits = free;
        first = l.first;
        is_in = to-due l.first l.is_in;
        first_waits = (s.past l.first x.is_in x.past).0;
        in_force = omega (arith, x.past);
        before = l.before;
        inverts = λ _ _. l.inverts;
        object = x.object;
        class = class;
        first_on = live-on f l.first class a x.object (w.keeps_for m t l.first class x.is_for);
        this_on = live-on f f class a refl h;
      }

  -- its part is the one that the frame that ran was inside of
  left-behind : (f : PlannedFlip) (class : ClassId) → f.waits ≡ true → is_admissible now hit f ≡ true
      → waits after.waiting f.object.0 (Some class) f.number ≡ Some f → IsFor (reading m) f (Some class)
      → IsLeft m t f → IsCovered n now after.due f
  left-behind f class free a e h l = go h.1
    where
      go : ((reading m).class f.object.0 ≡ None) ⊎ IsOn (reading m) class f → IsCovered n now after.due f
      go (inl z) =
          clash (is_admissible now hit f) a (w.dead now hit f (w.keeps_dead m t f (h.0, inl z)))
      go (inr on) =
          led f class free a (w.keeps_for m t f class h)
          (k.parts f.object.0 class f.number f
          (subst (λ c. is_top_on m.setting f.object.0 c (thread_at m.threads t) ≡ true)
          (w.one_part (reading m) f l.class class l.on on) l.top)
          l.gone e)

  woken : (f : PlannedFlip) (c : Option ClassId) → f.waits ≡ true → is_admissible now hit f ≡ true
      → waits after.waiting f.object.0 c f.number ≡ Some f → IsFor (reading m) f c
      → IsLeft m t f ⊎ IsMade m t f → IsCovered n now after.due f
  woken f None free a e h l =
      clash (is_admissible now hit f) a (w.unmade (next m t).0 hit f (for-by f.object.0 f.number f None e refl h))
  woken f (Some class) free a e h (inl l) = left-behind f class free a e h l
  woken f (Some class) free a e h (inr made) = not-last f.object.0 (length m.world.objects) h.0 made.object

  -- ---- what was gone through

  abbrev Stays : PlannedFlip → Type 0
  Stays f = (is_admissible now hit f ≡ false) ⊎ IsCovered n now after.due f

  abbrev Passes : PlannedFlip → Type 0
  Passes f = IsIn after.due f ⊎ (Stays f × IsFiled now after.waiting f)

  waits-on : (f : PlannedFlip) (c : Option ClassId) → IsIn ahead f → f.moment < n
      → waits after.waiting f.object.0 c f.number ≡ Some f → Stays f
  waits-on f c i l e = go (is_admissible now hit f) refl
    where
      go : (b : Bool) → is_admissible now hit f ≡ b → Stays f
      go false a = inl a
      go true a =
          let p = s.past f i l in
          let x = s.waiting f.object.0 c f.number f (k.fewer f.object.0 c f.number f e) in
          inr (woken f c p.0 a e x.is_for (w.wakes m t hits f p.1.0 a))

  passes : (f : PlannedFlip) → IsIn ahead f → f.moment < n → Passes f
  passes f i l = go (s.past f i l).1.1
    where
      by : (c : Option ClassId) → (waits after.waiting f.object.0 c f.number ≡ Some f) ⊎ IsIn k.taken f → Passes f
      by c (inl e) = inr (waits-on f c i l e, inr (c, e))
      by c (inr e) = inl (to-due f e)

      go : IsFiled (reading m) q.waiting f → Passes f
      go (inl dead) =
          let now-dead = w.keeps_dead m t f dead in inr (inl (w.dead now hit f now-dead), inl now-dead)
      go (inr h) = by h.0 (k.rest f.object.0 h.0 f.number f h.1)

  ready : AreReady n now hit ahead after
  ready = record {
    order = s.order;
    left = record {
      rises = subst (λ l. IsNonDecreasingBy (λ (f : PlannedFlip). f.moment) l) (sym k.left) s.left.rises;
      is_in = λ f i. s.left.is_in f (subst (λ l. IsIn l f) k.left i);
      has = λ f i l. subst (λ x. IsIn x f) (sym k.left) (s.left.has f i l);
    };
    due_order = due-order;
    due_in = λ f i. taken-ahead f (due-from f i);
    waiting = waiting;
    past = λ f i l. ((s.past f i l).0, passes f i l);
    apart = λ f i h. k.gone sound f (due-from f i) h;
    once = λ o c d number f e d2. s.once o c d number f (k.fewer o c number f e) (k.fewer o d number f d2);
  }

pub turns-make-ready : LinesAreWoken → TurnsMakeReady
turns-make-ready w n t m hits ahead q after s k = ready w n t m hits ahead q after s k
