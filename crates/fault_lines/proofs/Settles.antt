-- To go through the lines of a moment with those that are due settles what was ready.
use Rattle.std.proofs.Common.{◌≡◌, ◌<◌, ◌≤◌, ◌⊎◌, inl, inr, ℕ, suc, nat_eq, List, [], map, Bool, true, false, Option, Some, refl, ap, sym, subst, ◌∙◌, arith}
use Rattle.std.proofs.lemmas.Bool.Decides.{nat_tests}
use Rattle.agxx_base.specs.declared.ids.ClassId.{ClassId}
use Rattle.flip_plan.specs.declared.flip.PlannedFlip.{PlannedFlip}
use Rattle.step_machine.specs.Total.{Total}
use Rattle.fault_model.specs.PlanLines.{PlanLine, line_of}
use Rattle.fault_model.specs.Admissible.{is_admissible}
use Rattle.fault_model.specs.Progress.{Progress, after_lines}
use Rattle.fault_lines.specs.Lists.{IsIn}
use Rattle.fault_lines.specs.Moments.{rest_of}
use Rattle.fault_lines.specs.Waiting.{waits}
use Rattle.fault_lines.specs.Lines.{MovesNobody, Stay, GoAlike, SomeLinesAreEnough, with_each, none_ahead}
use Rattle.fault_lines.specs.Wakes.{LinesAreWoken}
use Rattle.fault_lines.specs.Keeping.{Queues, Waits, WaitsFor, IsFiled, FilesEach, IsLeftOf, AreSettled, AreReady, GoesThrough, MomentsSettle, with_due}
use Rattle.fault_lines.proofs.Lefts.{moment, from-rest, in-rest, rest-rises}
use Rattle.fault_lines.proofs.Files.{IsNew, from-each, filed-stays, each-filed}
use Rattle.fault_lines.proofs.Onces.{files-once}
use Rattle.fault_lines.proofs.Stills.{for-still, dead-still}
use Rattle.fault_lines.proofs.Moments.{gone_through, come-by, same-flips, each-due, on-ahead, on-come, tells, now-on, waits-off, past-filed, enough}

filed-still : (p x : Progress) (v : Queues) (f : PlannedFlip) → MovesNobody p x → IsFiled p.total v.waiting f → IsFiled x.total v.waiting f
filed-still p x v f s (inl d) = inl (dead-still p x s f d)
filed-still p x v f s (inr w) = inr w

-- What is known behind the flips: of all lines, those that stay, and of those that were gone through, those that were kept.
record Behind (turn : ℕ) (p x : Progress) (ahead left kept : List PlannedFlip) (q after : Queues) : Type 0 where
  ready : AreReady turn p.total p.hits ahead q
  still : MovesNobody p x
  stay : Stay ahead (gone_through turn q) left kept
  blocked : (f : PlannedFlip) → IsIn left f → f.waits ≡ true → f.moment ≤ turn → is_admissible x.total x.hits f ≡ false
  fell : (f : PlannedFlip) → IsIn left f → f.waits ≡ false → nat_eq f.moment turn ≡ false
  files : FilesEach x.total kept q.waiting after.waiting
  after_left : after.left ≡ rest_of turn q.left
  after_due : after.due ≡ []

module _ (w : LinesAreWoken) (turn : ℕ) (p x : Progress) (ahead left kept : List PlannedFlip) (q after : Queues)
    (h : Behind turn p x ahead left kept q after) where
  on-come-by : (f : PlannedFlip) → IsIn (gone_through turn q) f → f.moment ≤ turn
  on-come-by f i = come-by turn f (on-come turn p.total p.hits ahead q h.ready f i)

  kept-ahead : (f : PlannedFlip) → IsIn kept f → IsIn ahead f
  kept-ahead f i = on-ahead turn p.total p.hits ahead q h.ready f (h.stay.kept_on f i)

  kept-tells : (f : PlannedFlip) → IsIn ahead f → (g : PlannedFlip) → IsIn kept g → f.number ≡ g.number → f ≡ g
  kept-tells = tells turn p.total p.hits ahead q h.ready kept kept-ahead

  -- ---- those whose moment is to come

  late : (f : PlannedFlip) → IsIn q.left f → turn ≤ f.moment
  late f i = (h.ready.left.is_in f i).1

  rest-in : (f : PlannedFlip) → IsIn (rest_of turn q.left) f → IsIn left f × (suc turn ≤ f.moment)
  rest-in f i =
      let a = from-rest turn q.left f h.ready.left.rises late i in
      let l = a.1 in
      (h.stay.to_left f (h.ready.left.is_in f a.0).0 (λ k. let u = on-come-by f k in absurd (omega (arith, l, u))), l)

  rest-has : (f : PlannedFlip) → IsIn left f → suc turn ≤ f.moment → IsIn (rest_of turn q.left) f
  rest-has f i l = in-rest turn q.left f (h.ready.left.has f (h.stay.of_left f i).0 (omega (arith, l))) l

  rest-left : IsLeftOf (suc turn) left (rest_of turn q.left)
  rest-left = record { rises = rest-rises turn q.left h.ready.left.rises; is_in = rest-in; has = rest-has }

  -- ---- those that wait

  old-waits : (o : ℕ) (c : Option ClassId) (n : ℕ) (f : PlannedFlip) → waits q.waiting o c n ≡ Some f → WaitsFor (suc turn) x.total left o c n f
  old-waits o c n f e =
      let w = h.ready.waiting o c n f e in
      let l = w.past in
      let v : waits q.waiting f.object.0 c f.number ≡ Some f =
      ap (λ k. waits q.waiting k c f.number) w.object ∙ ap (waits q.waiting o c) w.number_is ∙ e in
      record {
        is_in = h.stay.to_left f w.is_in (λ k. absurd (waits-off turn p.total p.hits ahead q h.ready f l (c, v) k));
        past = omega (arith, l);
        object = w.object;
        number_is = w.number_is;
        is_for = for-still p x h.still f c w.is_for;
      }

  new-waits : (o : ℕ) (c : Option ClassId) (n : ℕ) (f : PlannedFlip) → IsNew x.total kept o c n f → WaitsFor (suc turn) x.total left o c n f
  new-waits o c n f w =
      let u = on-come-by f (h.stay.kept_on f w.is_in) in
      record {
        is_in = h.stay.to_left f (kept-ahead f w.is_in) (λ k. w.is_in);
        past = omega (arith, u);
        object = w.object;
        number_is = w.number_is;
        is_for = w.is_for;
      }

  all-wait : (o : ℕ) (c : Option ClassId) (n : ℕ) (f : PlannedFlip) → waits after.waiting o c n ≡ Some f → WaitsFor (suc turn) x.total left o c n f
  all-wait o c n f e = go (from-each x.total kept q.waiting after.waiting o c n f h.files e)
    where
      go : (waits q.waiting o c n ≡ Some f) ⊎ IsNew x.total kept o c n f → WaitsFor (suc turn) x.total left o c n f
      go (inl k) = old-waits o c n f k
      go (inr k) = new-waits o c n f k

  -- what is kept didn't wait: its moment is now, or it was due
  kept-new : (f : PlannedFlip) → IsIn kept f → Waits q.waiting f → ⊥
  kept-new f i w =
      let l = (h.ready.waiting f.object.0 w.0 f.number f w.1).past in
      waits-off turn p.total p.hits ahead q h.ready f l w (h.stay.kept_on f i)

  -- ---- those that were gone through

  past-waits : (f : PlannedFlip) → IsIn left f → f.moment ≤ turn → f.waits ≡ true
  past-waits f i u = go f.waits refl
    where
      go : (b : Bool) → f.waits ≡ b → f.waits ≡ true
      go true e = e
      go false e =
          let d = h.fell f i e in
          let l : f.moment < turn = grind (arith, nat_tests) in
          (h.ready.past f (h.stay.of_left f i).0 l).0

  on-filed : (f : PlannedFlip) → IsIn left f → IsIn (gone_through turn q) f → IsFiled x.total after.waiting f
  on-filed f i k =
      let a = h.stay.of_left f i in
      each-filed x.total kept q.waiting after.waiting f (kept-tells f a.0) h.files (a.1 k)

  off-filed : (f : PlannedFlip) → IsIn ahead f → IsFiled p.total q.waiting f → IsFiled x.total after.waiting f
  off-filed f i k =
      filed-stays x.total kept q.waiting after.waiting f (kept-tells f i) h.files (filed-still p x q f h.still k)

  past-is-filed : (f : PlannedFlip) → IsIn left f → f.moment ≤ turn → IsFiled x.total after.waiting f
  past-is-filed f i u = go (nat_eq f.moment turn) refl
    where
      by : IsIn (gone_through turn q) f ⊎ IsFiled p.total q.waiting f → IsFiled x.total after.waiting f
      by (inl k) = on-filed f i k
      by (inr k) = off-filed f (h.stay.of_left f i).0 k

      go : (b : Bool) → nat_eq f.moment turn ≡ b → IsFiled x.total after.waiting f
      go true e =
          let d : f.moment ≡ turn = grind (arith, nat_tests) in
          on-filed f i (now-on turn p.total p.hits ahead q h.ready f (h.stay.of_left f i).0 d)
      go false e =
          let l : f.moment < turn = grind (arith, nat_tests) in
          by (past-filed turn p.total p.hits ahead q h.ready f (h.stay.of_left f i).0 l)

  behind-settles : AreSettled (suc turn) x.total x.hits left after
  behind-settles = record {
    order = h.stay.order;
    left = subst (λ l. IsLeftOf (suc turn) left l) (sym h.after_left) rest-left;
    none_due = h.after_due;
    waiting = all-wait;
    once = files-once w x.total kept q.waiting after.waiting h.files h.ready.once kept-new;
    past = λ f i l.
        let u : f.moment ≤ turn = omega (arith, l) in
        let w = past-waits f i u in
        (w, (h.blocked f i w u, past-is-filed f i u));
  }

-- ---- the law

still-of : (p y x : Progress) → MovesNobody (none_ahead p) y → x.total ≡ y.total → MovesNobody p x
still-of p y x s e = record {
  setting = ap (λ (m : Total). m.setting) e ∙ s.setting;
  class = ap (λ (m : Total). m.class) e ∙ s.class;
  frames = ap (λ (m : Total). m.frames) e ∙ s.frames;
  started = ap (λ (m : Total). m.started) e ∙ s.started;
  made = ap (λ (m : Total). m.made) e ∙ s.made;
  state = ap (λ (m : Total). m.state) e ∙ s.state;
}

module _ (turn : ℕ) (p : Progress) (ahead : List PlannedFlip) (q after : Queues) (r : AreReady turn p.total p.hits ahead q)
    (g : GoesThrough turn p q after) (a : GoAlike turn p ahead (gone_through turn q))
    (s : MovesNobody (none_ahead p) (with_each turn (gone_through turn q) (none_ahead p))) where
  each-is-due : with_each turn (gone_through turn q) (none_ahead p) ≡ with_due (gone_through turn q) (none_ahead p)
  each-is-due = each-due turn (gone_through turn q) (none_ahead p) (on-come turn p.total p.hits ahead q r)

  all-alike : none_ahead (after_lines turn (map line_of ahead) p) ≡ none_ahead (with_due (gone_through turn q) (none_ahead p))
  all-alike = a.all_else ∙ ap none_ahead each-is-due

  total-alike : (after_lines turn (map line_of ahead) p).total ≡ (with_due (gone_through turn q) (none_ahead p)).total
  total-alike = ap (λ (z : Progress). z.total) all-alike

  kept-alike : g.kept ≡ a.kept
  kept-alike =
      same-flips g.kept a.kept (sym g.kept_is ∙ ap (λ (z : Progress). z.ahead) (sym each-is-due) ∙ a.kept_is)

  files-alike : FilesEach (after_lines turn (map line_of ahead) p).total a.kept q.waiting after.waiting
  files-alike =
      subst (λ m. FilesEach m a.kept q.waiting after.waiting) (sym total-alike)
      (subst (λ k. FilesEach (with_due (gone_through turn q) (none_ahead p)).total k q.waiting after.waiting) kept-alike g.files)

  behind : Behind turn p (after_lines turn (map line_of ahead) p) ahead a.left a.kept q after
  behind = record {
    ready = r;
    still = still-of p (with_each turn (gone_through turn q) (none_ahead p)) (after_lines turn (map line_of ahead) p) s
        (ap (λ (z : Progress). z.total) a.all_else);
    stay = a.stay;
    blocked = a.blocked;
    fell = a.fell;
    files = files-alike;
    after_left = g.left;
    after_due = g.due;
  }

-- What is settled by lines ahead.
abbrev IsSettledFrom : ℕ → Progress → Queues → Queues → List PlanLine → Type 0
IsSettledFrom turn p q after lines =
    (ahead : List PlannedFlip)
    × (((after_lines turn lines p).ahead ≡ map line_of ahead)
    × (AreSettled (suc turn) (after_lines turn lines p).total (after_lines turn lines p).hits ahead after
    × (none_ahead (after_lines turn lines p) ≡ none_ahead (with_due (gone_through turn q) (none_ahead p)))))

settles-from : SomeLinesAreEnough → LinesAreWoken → (turn : ℕ) (p : Progress) (ahead : List PlannedFlip) (q after : Queues) → AreReady turn p.total p.hits ahead q
    → GoesThrough turn p q after → IsSettledFrom turn p q after (map line_of ahead)
settles-from e w turn p ahead q after r g =
    let a = e.alike turn p ahead (gone_through turn q) (enough turn p ahead q r) in
    let s = e.still turn (gone_through turn q) (none_ahead p) in (
      a.left,
      (
        a.left_is,
        (
          behind-settles w turn p (after_lines turn (map line_of ahead) p) ahead a.left a.kept q after (behind turn p ahead q after r g a s),
          all-alike turn p ahead q after r g a s,
        ),
      ),
    )

pub moments-settle : SomeLinesAreEnough → LinesAreWoken → MomentsSettle
moments-settle e w turn p ahead q after is r g =
    let x = subst (IsSettledFrom turn p q after) (sym is) (settles-from e w turn p ahead q after r g) in
    record { ahead = x.0; ahead_is = x.1.0; settled = x.1.1.0; all_else = x.1.1.1 }
