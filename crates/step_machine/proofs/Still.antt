-- Turns that change nothing.
use Rattle.std.proofs.Common.{◌≡◌, ℕ, zero, suc, List, [], ◌∷◌, Bool, true, false, Option, Some, None, slice_get, slice_set, refl, ap, sym, subst, ◌∙◌}
use Rattle.agxx_base.specs.declared.place.Place.{Place}
use Rattle.step_machine.specs.declared.outcome.State.{State}
use Rattle.step_machine.specs.declared.outcome.State.TheVariants as state
use Rattle.step_machine.specs.declared.outcome.Stop.{Stop}
use Rattle.step_machine.specs.declared.outcome.StepKind.TheVariants as kind
use Rattle.step_machine.specs.Item.{Item}
use Rattle.step_machine.specs.Frame.{Frame}
use Rattle.step_machine.specs.Effects as on
use Rattle.step_machine.specs.Effects.{Act, Deed, Turn, did, goes, stops, waits}
use Rattle.step_machine.specs.Act.{act}
use Rattle.step_machine.specs.Inserted.{is_inserted}
use Rattle.step_machine.specs.Turn.{Thread, Settled, settled, done}
use Rattle.step_machine.specs.Machine.{Machine, Next, reads_of, step_kind, put_at, landed, turn_off, off_items, off_at, next_by}
use Rattle.step_machine.specs.Laws.{TurnsThatChangeNothing}
use Rattle.step_machine.proofs.Turns.{there}

-- ---- what a turn is said to do, by its kind and the state after it

abbrev idle : Machine → Next
idle m = (m, kind.Idle)

-- the threads are as they were
record Stays (m : Machine) (n : Next) : Type 0 where
  idles : n.1 ≡ kind.Idle → n.0 ≡ m
  blocks : n.1 ≡ kind.Blocked → n.0 ≡ m
  stops_there : (cause : Stop) (at : Place) → n.0.state ≡ state.Stopped cause at → n.0 ≡ record m { state = state.Stopped cause at }

running : (m : Machine) → m.state ≡ state.Running → record m { state = state.Running } ≡ m
running m e = ap (λ z. record m { state = z }) (sym e)

-- ---- frames put back

set-same : {A : Type 0} (xs : List A) (t : ℕ) (x y : A) → slice_get xs t ≡ Some y → slice_set (slice_set xs t x) t y ≡ xs
set-same [] t x y e = cc
set-same (a ∷ xs) zero x y e = ap (λ z. z ∷ xs) (cc e)
set-same (a ∷ xs) (suc t) x y e = ap (λ z. a ∷ z) (set-same xs t x y e)

abbrev landing : Machine → ℕ → Thread → Bool → Settled → Next
landing m t fs inserted r = landed m t (slice_set (slice_set m.threads t fs) t r.0, r.1, inserted)

step-idle : (b : Bool) → step_kind b ≡ kind.Idle → ⊥
step-idle true e = cc
step-idle false e = cc

step-blocked : (b : Bool) → step_kind b ≡ kind.Blocked → ⊥
step-blocked true e = cc
step-blocked false e = cc

-- a turn that neither waits nor stops
moving : (m : Machine) (n : Next) (inserted : Bool) → n.1 ≡ step_kind inserted → ((cause : Stop) (at : Place) → n.0.state ≡ state.Stopped cause at → ⊥) → Stays m n
moving m n inserted e h = record {
  idles = λ q. absurd (step-idle inserted (sym e ∙ q));
  blocks = λ q. absurd (step-blocked inserted (sym e ∙ q));
  stops_there = λ cause at q. absurd (h cause at q);
}

moves : (m : Machine) (t : ℕ) (fs : Thread) (inserted : Bool) (f : Frame) (d : Deed) → Stays m (landing m t fs inserted (done fs f d))
moves m t fs inserted f on.stay = moving m _ inserted refl (λ cause at e. cc)
moves m t fs inserted f (on.change c) = moving m _ inserted refl (λ cause at e. cc)
moves m t fs inserted f (on.enter g) = moving m _ inserted refl (λ cause at e. cc)
moves m t fs inserted f (on.create_entering class words g) = moving m _ inserted refl (λ cause at e. cc)
moves m t fs inserted f (on.back v) = moving m _ inserted refl (λ cause at e. cc)
moves m t fs inserted f (on.back_killing o) = moving m _ inserted refl (λ cause at e. cc)
moves m t fs inserted f (on.start g) = moving m _ inserted refl (λ cause at e. cc)
moves m t fs inserted f (on.end z) = moving m _ inserted refl (λ cause at e. cc)
moves m t fs inserted f (on.halt o class) = moving m _ inserted refl (λ cause at e. cc)

-- the item is put back
back-threads : (m : Machine) (t : ℕ) (f : Frame) (i : Item) (is : List Item) (fs : Thread) → slice_get m.threads t ≡ Some (f ∷ fs) → f.items ≡ i ∷ is
    → slice_set (slice_set m.threads t fs) t (record f { items = i ∷ is } ∷ fs) ≡ m.threads
back-threads m t f i is fs e q =
    ap (λ z. slice_set (slice_set m.threads t fs) t (record f { items = z } ∷ fs)) (sym q) ∙ set-same m.threads t fs (f ∷ fs) e

acted : (m : Machine) (t : ℕ) (inserted : Bool) (f : Frame) (i : Item) (is : List Item) (fs : Thread) (a : Act)
    → m.state ≡ state.Running → slice_get m.threads t ≡ Some (f ∷ fs) → f.items ≡ i ∷ is
    → (let d = did (record f { items = is }) a in Stays m (landing m t fs inserted (settled i fs d.0 d.1)))
acted m t inserted f i is fs (goes g d) r e q = moves m t fs inserted g d
acted m t inserted f i is fs (stops cause at) r e q = record {
  idles = λ z. absurd (step-idle inserted z);
  blocks = λ z. absurd (step-blocked inserted z);
  stops_there = λ other place z. ap (λ ths. record m { threads = ths; state = state.Stopped cause at }) (back-threads m t f i is fs e q) ∙ ap (λ s. record m { state = s }) z;
}
acted m t inserted f i is fs waits r e q = record {
  idles = λ z. cc;
  blocks = λ z. ap (λ ths. record m { threads = ths; state = state.Running }) (back-threads m t f i is fs e q) ∙ running m r;
  stops_there = λ other place z. cc;
}

-- ---- the turn of a thread without a next item

rests : (m : Machine) (t : ℕ) → m.state ≡ state.Running → landed m t (m.threads, on.idle, false) ≡ idle m
rests m t r = ap (λ z. (z, kind.Idle)) (running m r)

resting : (m : Machine) (t : ℕ) → m.state ≡ state.Running → Stays m (landed m t (m.threads, on.idle, false))
resting m t r = record { idles = λ z. running m r; blocks = λ z. cc; stops_there = λ cause at z. cc }

turning : (m : Machine) (t : ℕ) (x : Option Thread) → slice_get m.threads t ≡ x → m.state ≡ state.Running
    → Stays m (landed m t (turn_off m.setting m.world t m.threads (off_at t m.threads x)))
turning m t None e r = resting m t r
turning m t (Some []) e r = resting m t r
turning m t (Some (f ∷ fs)) e r = go f.items refl
  where
    go : (is : List Item) → f.items ≡ is → Stays m (landed m t (turn_off m.setting m.world t m.threads (off_items t m.threads f fs is)))
    go [] q = resting m t r
    go (i ∷ is) q =
        let a = act m.setting (reads_of m.setting m.world t (slice_set m.threads t fs)) t i (record f { items = is }) in
        let g : Frame = record f { items = is } in
        subst (λ x. Stays m (landed m t (put_at t (slice_set m.threads t fs) (is_inserted m.setting i g) x i (did g a))))
        (sym (there m.threads t fs (f ∷ fs) e)) (acted m t (is_inserted m.setting i g) f i is fs a r e q)

over-stays : (m : Machine) → ((cause : Stop) (at : Place) → m.state ≡ state.Stopped cause at → m ≡ record m { state = state.Stopped cause at })
over-stays m cause at e = ap (λ z. record m { state = z }) e

next-stays : (now : State) (m : Machine) (t : ℕ) → m.state ≡ now → Stays m (next_by now m t)
next-stays state.Running m t e = turning m t (slice_get m.threads t) refl e
next-stays (state.Ended v) m t e = record { idles = λ z. refl; blocks = λ z. refl; stops_there = over-stays m }
next-stays (state.Stopped cause at) m t e = record { idles = λ z. refl; blocks = λ z. refl; stops_there = over-stays m }
next-stays (state.Halted o class) m t e = record { idles = λ z. refl; blocks = λ z. refl; stops_there = over-stays m }
next-stays state.Lost m t e = record { idles = λ z. refl; blocks = λ z. refl; stops_there = over-stays m }

-- ---- threads without frames

gone : (now : State) (m : Machine) (t : ℕ) → m.state ≡ now → off_at t m.threads (slice_get m.threads t) ≡ None → next_by now m t ≡ idle m
gone state.Running m t e q = ap (λ x. landed m t (turn_off m.setting m.world t m.threads x)) q ∙ rests m t e
gone (state.Ended v) m t e q = refl
gone (state.Stopped cause at) m t e q = refl
gone (state.Halted o class) m t e q = refl
gone state.Lost m t e q = refl

once-over : (now : State) (m : Machine) (t : ℕ) → m.state ≡ now → (m.state ≡ state.Running → ⊥) → next_by now m t ≡ idle m
once-over state.Running m t e h = absurd (h e)
once-over (state.Ended v) m t e h = refl
once-over (state.Stopped cause at) m t e h = refl
once-over (state.Halted o class) m t e h = refl
once-over state.Lost m t e h = refl

pub still : TurnsThatChangeNothing
still = record {
  of_missing = λ m t e. gone m.state m t refl (ap (off_at t m.threads) e);
  of_ended = λ m t e. gone m.state m t refl (ap (off_at t m.threads) e);
  of_over = λ m t h. once-over m.state m t refl h;
  of_idle = λ m t. (next-stays m.state m t refl).idles;
  of_blocked = λ m t. (next-stays m.state m t refl).blocks;
  of_stopped = λ m t cause at r. (next-stays m.state m t refl).stops_there cause at;
}
