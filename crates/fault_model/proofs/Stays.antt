-- Who comes into a part in a turn, and who leaves it.
use Rattle.std.proofs.Common.{◌≡◌, ◌⊎◌, inl, inr, ◌<◌, ℕ, zero, suc, if◌then◌else◌, List, [], ◌∷◌, ◌++◌, length, Bool, true, false, ◌&&◌, ◌||◌, Option, Some, None, slice_get, slice_set, refl, ap, sym, subst, ◌∙◌, arith}
use Rattle.std.proofs.Math.Path.{fun_ext}
use Rattle.std.specs.List.{list_any}
use Rattle.std.proofs.lemmas.List.Folds.{list_any-append}
use Rattle.agxx_base.specs.declared.ids.ClassId.{ClassId}
use Rattle.step_machine.specs.declared.datum.Datum.{Datum}
use Rattle.step_machine.specs.declared.outcome.State.{State}
use Rattle.step_machine.specs.declared.outcome.State.TheVariants as state
use Rattle.step_machine.specs.Setting.{Setting, class_of_function, is_of}
use Rattle.step_machine.specs.Item.{Item}
use Rattle.step_machine.specs.Frame.{Frame, is_object}
use Rattle.step_machine.specs.Effects as on
use Rattle.step_machine.specs.Effects.{Act, Change, Deed, Turn, did, goes, stops, waits}
use Rattle.step_machine.specs.Act.{act}
use Rattle.step_machine.specs.Inserted.{is_inserted}
use Rattle.step_machine.specs.Turn.{Thread, Threads, Settled, settled, done, handed, thread_at, frames_of}
use Rattle.step_machine.specs.World.{class_at}
use Rattle.step_machine.specs.Machine.{Machine, reads_of, threads_after, after, put_at, landed, turn_off, off_items, off_at, next_by}
use Rattle.step_machine.specs.Total.{reading, same, after_of}
use Rattle.step_machine.proofs.Same.{same-eq, length-snoc}
use Rattle.step_machine.proofs.Bridge.{after-is}
use Rattle.step_machine.proofs.Turns.{there}
use Rattle.fault_model.specs.Inside.{is_inside, is_frame_on, are_inside}
use Rattle.fault_model.specs.Stays.{StaysChangeAtTheTop, is_top_on}
use Rattle.fault_model.proofs.Insides.{inside-is-emptied}
use Rattle.fault_model.proofs.Keeps.{Keeps, act-keeps}

-- ---- of two, one at least

neither : (a b : Bool) → (a || b) ≡ false → (a ≡ false) × (b ≡ false)
neither true b e = cc
neither false b e = (refl, e)

the-first : (a b : Bool) → b ≡ false → (a || b) ≡ true → a ≡ true
the-first true b q e = refl
the-first false b q e = cc (e, q)

-- ---- lists with one element changed

set-set : {A : Type 0} (xs : List A) (t : ℕ) (x y : A) → slice_set (slice_set xs t x) t y ≡ slice_set xs t y
set-set [] t x y = refl
set-set (a ∷ xs) zero x y = refl
set-set (a ∷ xs) (suc t) x y = ap (λ z. a ∷ z) (set-set xs t x y)

get-front : {A : Type 0} (xs ys : List A) (t : ℕ) (x : A) → slice_get xs t ≡ Some x → slice_get (xs ++ ys) t ≡ Some x
get-front [] ys t x e = cc
get-front (a ∷ xs) ys zero x e = e
get-front (a ∷ xs) ys (suc t) x e = get-front xs ys t x e

-- the thread whose turn it was is as it was put
after-at : (r : Turn) (ths : Threads) (t : ℕ) (fs : Thread) → slice_get ths t ≡ Some fs → thread_at (threads_after r ths) t ≡ fs
after-at on.went ths t fs e = ap frames_of e
after-at (on.changed c) ths t fs e = ap frames_of e
after-at (on.started g) ths t fs e = ap frames_of (get-front ths ((g ∷ []) ∷ []) t fs e)
after-at on.blocked ths t fs e = ap frames_of e
after-at on.idle ths t fs e = ap frames_of e
after-at (on.ended z) ths t fs e = ap frames_of e
after-at (on.halted p made) ths t fs e = ap frames_of e
after-at (on.stopped cause at) ths t fs e = ap frames_of e

module _ (P : Thread → Bool) where
  -- where none is, the changed one alone can be
  none-of : (ths : Threads) (t : ℕ) (old : Thread) → slice_get ths t ≡ Some old → list_any P ths ≡ false → P old ≡ false
  none-of [] t old e q = cc
  none-of (fs ∷ ths) zero old e q = cc (e, (neither (P fs) (list_any P ths) q).0)
  none-of (fs ∷ ths) (suc t) old e q = none-of ths t old e (neither (P fs) (list_any P ths) q).1

  set-comes : (ths : Threads) (t : ℕ) (new : Thread) → list_any P ths ≡ false → list_any P (slice_set ths t new) ≡ true → P new ≡ true
  set-comes [] t new q e = cc
  set-comes (fs ∷ ths) zero new q e = the-first (P new) (list_any P ths) (neither (P fs) (list_any P ths) q).1 e
  set-comes (fs ∷ ths) (suc t) new q e =
      let n = neither (P fs) (list_any P ths) q in set-comes ths t new n.1 (ap (λ b. b || list_any P (slice_set ths t new)) (sym n.0) ∙ e)

  -- where one was and none is, the changed one was
  set-goes : (ths : Threads) (t : ℕ) (new old : Thread) → slice_get ths t ≡ Some old → list_any P ths ≡ true
      → list_any P (slice_set ths t new) ≡ false → P old ≡ true
  set-goes [] t new old e q z = cc
  set-goes (fs ∷ ths) zero new old e q z =
      cc (e, the-first (P fs) (list_any P ths) (neither (P new) (list_any P ths) z).1 q)
  set-goes (fs ∷ ths) (suc t) new old e q z =
      let n = neither (P fs) (list_any P (slice_set ths t new)) z in
      set-goes ths t new old e (ap (λ b. b || list_any P ths) (sym n.0) ∙ q) n.1

module _ (s : Setting) (o : ℕ) (class : ClassId) where
  -- ---- frames

  abbrev is_on_it : Frame → Bool
  is_on_it = is_frame_on s o class

  abbrev are_on_it : Thread → Bool
  are_on_it = list_any is_on_it

  abbrev top : Thread → Bool
  top = is_top_on s o class

  -- the frames above don't matter
  inside-any : (above : List Frame) (fs : Thread) → are_inside s o class above fs ≡ are_on_it fs
  inside-any above [] = refl
  inside-any above (f ∷ fs) = ap (λ b. is_on_it f || b) (inside-any (f ∷ above) fs)

  on-same : (f g : Frame) → f.this ≡ g.this → f.function ≡ g.function → is_on_it f ≡ is_on_it g
  on-same f g p q = λ i. is_object o (p i) && is_of s (class_of_function s (q i)) (Some class)

  on-none : (f : Frame) → f.this ≡ None → is_on_it f ≡ false
  on-none f p = ap (λ x. is_object o x && is_of s (class_of_function s f.function) (Some class)) p

  -- ---- a thread

  -- how the frames of a thread change
  record Shifts (old new : Thread) : Type 0 where
    comes : are_on_it old ≡ false → are_on_it new ≡ true → top new ≡ true
    goes : are_on_it old ≡ true → are_on_it new ≡ false → (top old ≡ true) × (length new < length old)

  shifts-same : (f g : Frame) (fs : Thread) → is_on_it g ≡ is_on_it f → Shifts (f ∷ fs) (g ∷ fs)
  shifts-same f g fs e = record {
    comes = λ p q. cc (e, p, q);
    goes = λ p q. cc (e, p, q);
  }

  shifts-more : (f g h : Frame) (fs : Thread) → is_on_it g ≡ is_on_it f → Shifts (f ∷ fs) (h ∷ g ∷ fs)
  shifts-more f g h fs e = record {
    comes = λ p q. the-first (is_on_it h) (are_on_it (g ∷ fs)) (ap (λ b. b || are_on_it fs) e ∙ p) q;
    goes = λ p q. cc ((neither (is_on_it h) (are_on_it (g ∷ fs)) q).1, e, p);
  }

  shifts-less : (f : Frame) (fs new : Thread) → are_on_it new ≡ are_on_it fs → length new ≡ length fs → Shifts (f ∷ fs) new
  shifts-less f fs new e l = record {
    comes = λ p q. cc ((neither (is_on_it f) (are_on_it fs) p).1, e, q);
    goes = λ p q. (the-first (is_on_it f) (are_on_it fs) (sym e ∙ q) p, omega (arith, l));
  }

  handed-on : (v : Option Datum) (fs : Thread) → are_on_it (handed v fs) ≡ are_on_it fs
  handed-on None fs = refl
  handed-on (Some v) [] = refl
  handed-on (Some v) (f ∷ fs) = refl

  handed-length : (v : Option Datum) (fs : Thread) → length (handed v fs) ≡ length fs
  handed-length None fs = refl
  handed-length (Some v) [] = refl
  handed-length (Some v) (f ∷ fs) = refl

  -- ---- the thread after an effect

  abbrev StartsOutside : Turn → Type 0
  StartsOutside (on.started g) = g.this ≡ None
  StartsOutside _ = Unit {0}

  abbrev Settles : Thread → Settled → Type 0
  Settles old r = Shifts old r.0 × StartsOutside r.1

  done-settles : (f g : Frame) (fs : Thread) (d : Deed) → Keeps f.this f.function (goes g d) → Settles (f ∷ fs) (done fs g d)
  done-settles f g fs on.stay k = (shifts-same f g fs (on-same g f k.0 k.1.0), tt)
  done-settles f g fs (on.change c) k = (shifts-same f g fs (on-same g f k.0 k.1.0), tt)
  done-settles f g fs (on.enter h) k = (shifts-more f g h fs (on-same g f k.0 k.1.0), tt)
  done-settles f g fs (on.create_entering made words h) k = (shifts-more f g h fs (on-same g f k.0 k.1.0), tt)
  done-settles f g fs (on.back v) k = (shifts-less f fs (handed v fs) (handed-on v fs) (handed-length v fs), tt)
  done-settles f g fs (on.back_killing p) k = (shifts-less f fs fs refl refl, tt)
  done-settles f g fs (on.start h) k = (shifts-same f g fs (on-same g f k.0 k.1.0), k.1.1)
  done-settles f g fs (on.end z) k = (shifts-same f g fs (on-same g f k.0 k.1.0), tt)
  done-settles f g fs (on.halt p made) k = (shifts-same f g fs (on-same g f k.0 k.1.0), tt)

  settles : (f : Frame) (i : Item) (is : List Item) (fs : Thread) (a : Act) → Keeps f.this f.function a
      → (let d = did (record f { items = is }) a in Settles (f ∷ fs) (settled i fs d.0 d.1))
  settles f i is fs (goes g d) k = done-settles f g fs d k
  settles f i is fs (stops cause at) k = (shifts-same f (record f { items = i ∷ is }) fs refl, tt)
  settles f i is fs waits k = (shifts-same f (record f { items = i ∷ is }) fs refl, tt)

  -- ---- the threads after a turn

  or-none : (a b : Bool) → b ≡ false → (a || (b || false)) ≡ a
  or-none true b e = refl
  or-none false b e = ap (λ x. x || false) e

  after-any : (r : Turn) (ths : Threads) → StartsOutside r → list_any are_on_it (threads_after r ths) ≡ list_any are_on_it ths
  after-any on.went ths h = refl
  after-any (on.changed c) ths h = refl
  after-any (on.started g) ths h =
      list_any-append are_on_it ths ((g ∷ []) ∷ []) ∙ or-none (list_any are_on_it ths) (is_on_it g || false) (ap (λ b. b || false) (on-none g h))
  after-any on.blocked ths h = refl
  after-any on.idle ths h = refl
  after-any (on.ended z) ths h = refl
  after-any (on.halted p made) ths h = refl
  after-any (on.stopped cause at) ths h = refl

inside-on : (m : Machine) (o : ℕ) (class : ClassId) → is_inside (reading m) o class ≡ list_any (list_any (is_frame_on m.setting o class)) m.threads
inside-on m o class =
    inside-is-emptied.of_lists m o class ∙ ap (λ p. list_any p m.threads) (fun_ext (λ fs. inside-any m.setting o class [] fs))

-- ---- the class of an object

-- it stays, or there is none any more, or the object is the one that was made
abbrev Classes : Machine → Machine → ℕ → Type 0
Classes m n o = (class_at n.world o ≡ class_at m.world o) ⊎ ((class_at n.world o ≡ None)
    ⊎ ((o ≡ length m.world.objects) × (length n.world.objects ≡ suc (length m.world.objects))))

classes-after : (m : Machine) (t o : ℕ) (r : Turn) → Classes m (after t r m) o
classes-after m t o on.went = inl refl
classes-after m t o on.blocked = inl refl
classes-after m t o on.idle = inl refl
classes-after m t o (on.started f) = inl refl
classes-after m t o (on.ended z) = inl refl
classes-after m t o (on.halted p made) = inl refl
classes-after m t o (on.stopped cause at) = inl refl
classes-after m t o (on.changed c) = by c (ap (λ n. n.class o) (after-is m t (on.changed c)))
  where
    by : (c : Change) → class_at (after t (on.changed c) m).world o ≡ (after_of t (on.changed c) (reading m)).class o → Classes m (after t (on.changed c) m) o
    by (on.store p w bits) e = inl e
    by (on.assign name v) e = inl e
    by (on.print text) e = inl e
    by (on.take l) e = inl e
    by (on.free l) e = inl e
    by (on.create class words) e = made (same o (length m.world.objects)) refl
      where
        made : (b : Bool) → same o (length m.world.objects) ≡ b → Classes m (after t (on.changed (on.create class words)) m) o
        made true q = inr (inr (same-eq o (length m.world.objects) q, length-snoc m.world.objects _))
        made false q = inl (e ∙ ap (λ b. if b then Some class else class_at m.world o) q)
    by (on.kill p) e = gone (same o p) refl
      where
        gone : (b : Bool) → same o p ≡ b → Classes m (after t (on.changed (on.kill p)) m) o
        gone true q = inr (inl (e ∙ ap (λ b. if b then None else class_at m.world o) q))
        gone false q = inl (e ∙ ap (λ b. if b then None else class_at m.world o) q)

-- ---- a turn

record Moves (m n : Machine) (t : ℕ) : Type 0 where
  comes : (o : ℕ) (class : ClassId) → is_inside (reading m) o class ≡ false → is_inside (reading n) o class ≡ true
      → is_top_on m.setting o class (thread_at n.threads t) ≡ true
  goes : (o : ℕ) (class : ClassId) → is_inside (reading m) o class ≡ true → is_inside (reading n) o class ≡ false
      → (is_top_on m.setting o class (thread_at m.threads t) ≡ true) × (length (thread_at n.threads t) < length (thread_at m.threads t))
  classes : (o : ℕ) → Classes m n o
  setting : n.setting ≡ m.setting

-- where nobody moves
rests : (m : Machine) (t : ℕ) (now : State) → Moves m (record m { state = now }) t
rests m t now = record {
  comes = λ o class p q. cc (p, q);
  goes = λ o class p q. cc (p, q);
  classes = λ o. inl refl;
  setting = refl;
}

-- where the frames of a thread that were these are others then
module _ (m : Machine) (t : ℕ) (inserted : Bool) (rest old : Thread) (r : Settled) (e : slice_get m.threads t ≡ Some old) where
  abbrev put : Threads
  put = slice_set (slice_set m.threads t rest) t r.0

  abbrev n : Machine
  n = (landed m t (put, r.1, inserted)).0

  new-thread : thread_at n.threads t ≡ r.0
  new-thread = after-at r.1 put t r.0 (there (slice_set m.threads t rest) t r.0 rest (there m.threads t rest old e))

  old-thread : thread_at m.threads t ≡ old
  old-thread = ap frames_of e

  module _ (o : ℕ) (class : ClassId) (h : Settles m.setting o class old r) where
    abbrev on_it : Thread → Bool
    on_it = are_on_it m.setting o class

    new-any : is_inside (reading n) o class ≡ list_any on_it (slice_set m.threads t r.0)
    new-any = inside-on n o class ∙ after-any m.setting o class r.1 put h.1 ∙ ap (list_any on_it) (set-set m.threads t rest r.0)

    old-any : is_inside (reading m) o class ≡ list_any on_it m.threads
    old-any = inside-on m o class

    lands-comes : is_inside (reading m) o class ≡ false → is_inside (reading n) o class ≡ true
        → is_top_on m.setting o class (thread_at n.threads t) ≡ true
    lands-comes p q =
        let before = sym old-any ∙ p in
        ap (is_top_on m.setting o class) new-thread
        ∙ h.0.comes (none-of on_it m.threads t old e before) (set-comes on_it m.threads t r.0 before (sym new-any ∙ q))

    lands-goes : is_inside (reading m) o class ≡ true → is_inside (reading n) o class ≡ false
        → (is_top_on m.setting o class (thread_at m.threads t) ≡ true) × (length (thread_at n.threads t) < length (thread_at m.threads t))
    lands-goes p q =
        let now = sym new-any ∙ q in
        let was = set-goes on_it m.threads t r.0 old e (sym old-any ∙ p) now in
        let gone = h.0.goes was (none-of on_it (slice_set m.threads t r.0) t r.0 (there m.threads t r.0 old e) now) in (
          ap (is_top_on m.setting o class) old-thread ∙ gone.0,
          subst (λ x. length x < length (thread_at m.threads t)) (sym new-thread) (subst (λ x. length r.0 < length x) (sym old-thread) gone.1),
        )

  lands : ((o : ℕ) (class : ClassId) → Settles m.setting o class old r) → Moves m n t
  lands h = record {
    comes = λ o class. lands-comes o class (h o class);
    goes = λ o class. lands-goes o class (h o class);
    classes = λ o. classes-after m t o r.1;
    setting = refl;
  }

turning : (m : Machine) (t : ℕ) (x : Option Thread) → slice_get m.threads t ≡ x
    → Moves m (landed m t (turn_off m.setting m.world t m.threads (off_at t m.threads x))).0 t
turning m t None e = rests m t state.Running
turning m t (Some []) e = rests m t state.Running
turning m t (Some (f ∷ fs)) e = go f.items
  where
    go : (is : List Item) → Moves m (landed m t (turn_off m.setting m.world t m.threads (off_items t m.threads f fs is))).0 t
    go [] = rests m t state.Running
    go (i ∷ is) =
        let g : Frame = record f { items = is } in
        let r = reads_of m.setting m.world t (slice_set m.threads t fs) in
        let a = act m.setting r t i g in
        let d = did g a in
        subst (λ x. Moves m (landed m t (put_at t (slice_set m.threads t fs) (is_inserted m.setting i g) x i d)).0 t)
        (sym (there m.threads t fs (f ∷ fs) e))
        (lands m t (is_inserted m.setting i g) fs (f ∷ fs) (settled i fs d.0 d.1) e
        (λ o class. settles m.setting o class f i is fs a (act-keeps m.setting r t i g)))

moves : (now : State) (m : Machine) (t : ℕ) → Moves m (next_by now m t).0 t
moves state.Running m t = turning m t (slice_get m.threads t) refl
moves (state.Ended v) m t = rests m t m.state
moves (state.Stopped cause at) m t = rests m t m.state
moves (state.Halted o class) m t = rests m t m.state
moves state.Lost m t = rests m t m.state

pub stays-change : StaysChangeAtTheTop
stays-change = record {
  comes = λ m t. (moves m.state m t).comes;
  goes = λ m t. (moves m.state m t).goes;
  class = λ m t. (moves m.state m t).classes;
  setting = λ m t. (moves m.state m t).setting;
}
