-- What turns and flips keep: frames name no other members, and each word of a live object fits in its width.
use Rattle.std.proofs.Common.{◌≡◌, ℕ, suc, ◌^◌, ◌<◌, Bool, true, false, if◌then◌else◌, List, [], ◌∷◌, length, replicate, Option, Some, None, option_map, slice_get, refl, sym, ap, subst, ◌∙◌, arith}
use Rattle.std.proofs.Math.Pow.{pow-lt}
use Rattle.std.proofs.lemmas.Nat.{pow_pos, xor_lt}
use Rattle.std.proofs.lemmas.List.{length-replicate, get_or-replicate}
use Rattle.std.proofs.lemmas.Bool.{not-false, ltb-true}
use Rattle.std.proofs.lemmas.Option.{none-some, same_Some, slice_get_within, get_or_from_slice_get}
use Rattle.agxx_base.specs.declared.ids.ClassId.{ClassId}
use Rattle.agxx_base.specs.declared.kind.NumKind.{NumKind}
use Rattle.step_machine.specs.declared.datum.Datum.{Datum}
use Rattle.step_machine.specs.declared.outcome.State.{State}
use Rattle.step_machine.specs.declared.outcome.State.TheVariants as state
use Rattle.step_machine.specs.Data.{bits_of}
use Rattle.step_machine.specs.Setting.{is_of}
use Rattle.step_machine.specs.Item.{Item}
use Rattle.step_machine.specs.Frame.{Frame}
use Rattle.step_machine.specs.Effects as on
use Rattle.step_machine.specs.Effects.{Change, Deed, Turn, Act, goes, stops, waits, did}
use Rattle.step_machine.specs.Reads.{Reads}
use Rattle.step_machine.specs.ActMembers.{is_other}
use Rattle.step_machine.specs.Act.{act}
use Rattle.step_machine.specs.Turn.{Thread, Settled, handed, done, settled}
use Rattle.step_machine.specs.Machine.{state_after}
use Rattle.step_machine.specs.Total.{Total, same, upd, reads, stored, zero_words, change_of, with_state, after_of, off_item, off_thread, turn_of, next_if, next_of}
use Rattle.step_machine.specs.Flips.{FlippedOf, width_of, is_bit, inverted, with_bits_of, flipped_of_by, flipped_of}
use Rattle.step_machine.proofs.Same.{same-eq}
use Rattle.machine_laws.specs.Members.{Nothing, OfItem, OfItems, OfFrames}
use Rattle.machine_laws.specs.Widths.{IsDeclared, FitWords, IsFit}
use Rattle.machine_laws.proofs.Holding.{OfChange, OfDeed, OfAct}
use Rattle.machine_laws.proofs.Acts.{StoresFit, act-kept}
use Rattle.machine_laws.proofs.MemberWidths.{bits-fit, member-width}

-- ---- a thread after an item

module _ (Holds : ClassId → ℕ → NumKind → Type 0) (FitsIn : ℕ → ℕ → ℕ → Type 0) where
  abbrev pub OfTurn : Turn → Type 0
  OfTurn (on.changed x) = OfChange Holds FitsIn x
  OfTurn (on.started g) = OfItems Holds g.items
  OfTurn _ = Nothing

  abbrev pub OfSettled : Settled → Type 0
  OfSettled r = OfFrames Holds r.0 × OfTurn r.1

  handed-kept : (v : Option Datum) (fs : Thread) → OfFrames Holds fs → OfFrames Holds (handed v fs)
  handed-kept None fs r = r
  handed-kept (Some v) [] r = r
  handed-kept (Some v) (f ∷ fs) r = r

  done-kept : (fs : Thread) (f : Frame) (d : Deed) → OfFrames Holds fs → OfItems Holds f.items → OfDeed Holds FitsIn d → OfSettled (done fs f d)
  done-kept fs f on.stay r h k = ((h, r), tt)
  done-kept fs f (on.change x) r h k = ((h, r), k)
  done-kept fs f (on.enter g) r h k = ((k, (h, r)), tt)
  done-kept fs f (on.create_entering class words g) r h k = ((k, (h, r)), tt)
  done-kept fs f (on.back v) r h k = (handed-kept v fs r, tt)
  done-kept fs f (on.back_killing o) r h k = (r, tt)
  done-kept fs f (on.start g) r h k = ((h, r), k)
  done-kept fs f (on.end z) r h k = ((h, r), tt)
  done-kept fs f (on.halt o class) r h k = ((h, r), tt)

  pub settled-kept : (a : Act) (i : Item) (f : Frame) (fs : Thread) → OfAct Holds FitsIn a → OfItem Holds i → OfItems Holds f.items → OfFrames Holds fs
      → OfSettled (let d = did f a in settled i fs d.0 d.1)
  settled-kept (goes g d) i f fs k q h r = done-kept fs g d r k.0 k.1
  settled-kept (stops cause at) i f fs k q h r = (((q, h), r), tt)
  settled-kept waits i f fs k q h r = (((q, h), r), tt)

-- ---- words

abbrev FitsNow : Total → ℕ → ℕ → ℕ → Type 0
FitsNow m o w bits = (class : ClassId) → m.class o ≡ Some class → bits < 2 ^ width_of m.setting class w

replaced : (bits b : ℕ) (x : Option ℕ) → option_map (λ _. bits) x ≡ Some b → bits ≡ b
replaced bits b None e = absurd (none-some b e)
replaced bits b (Some x) e = same_Some bits b e

zero-word : (n v bits : ℕ) → slice_get (replicate n 0) v ≡ Some bits → bits ≡ 0
zero-word n v bits e =
    let h : v < length (replicate {A = ℕ} n 0) = slice_get_within (replicate {A = ℕ} n 0) v bits e in
    let all : length (replicate {A = ℕ} n 0) ≡ n = length-replicate n 0 in
    let inside : v < n = omega arith in
    sym (get_or_from_slice_get (replicate {A = ℕ} n 0) v bits 0 e) ∙ get_or-replicate n v 0 0 inside

pub zero-fits : (n v bits k : ℕ) → slice_get (replicate n 0) v ≡ Some bits → bits < 2 ^ k
zero-fits n v bits k e = let z = zero-word n v bits e in let h = pow_pos k in omega arith

module _ (m : Total) (fit : IsFit m) where
  store-words : (o w bits : ℕ) → FitsNow m o w bits → FitWords m.setting (stored m.word o w bits) m.class
  store-words o w bits k p v b class e z = by (same p o) (same v w) refl refl z
    where
      by : (x y : Bool) → same p o ≡ x → same v w ≡ y
          → (if x then (if y then option_map (λ _. bits) (m.word p v) else m.word p v) else m.word p v) ≡ Some b → b < 2 ^ width_of m.setting class v
      by false y f g q = fit.words p v b class e q
      by true false f g q = fit.words p v b class e q
      by true true f g q =
          let this = k class (ap m.class (sym (same-eq p o f)) ∙ e) in
          subst (λ n. n < 2 ^ width_of m.setting class v) (replaced bits b (m.word p v) q)
          (subst (λ n. bits < 2 ^ width_of m.setting class n) (sym (same-eq v w g)) this)

  create-words : (made : Option ClassId) (n : ℕ) → FitWords m.setting (upd m.word m.made (zero_words n)) (upd m.class m.made made)
  create-words made n p v b class e z = by (same p m.made) e z
    where
      by : (x : Bool) → (if x then made else m.class p) ≡ Some class → (if x then zero_words n else m.word p) v ≡ Some b → b < 2 ^ width_of m.setting class v
      by true f q = zero-fits n v b (width_of m.setting class v) q
      by false f q = fit.words p v b class f q

  kill-words : (o : ℕ) → FitWords m.setting (upd m.word o (λ w. None)) (upd m.class o None)
  kill-words o p v b class e z = by (same p o) e z
    where
      by : (x : Bool) → (if x then None else m.class p) ≡ Some class → (if x then (λ (w : ℕ). None) else m.word p) v ≡ Some b → b < 2 ^ width_of m.setting class v
      by true f q = absurd (none-some class f)
      by false f q = fit.words p v b class f q

  abbrev Holds : ClassId → ℕ → NumKind → Type 0
  Holds = IsDeclared m.setting.program

  pub change-fit : (t : ℕ) (x : Change) → OfChange Holds (FitsNow m) x → IsFit (change_of t x m)
  change-fit t (on.store o w bits) k = record { bases = fit.bases; kinds = fit.kinds; frames = fit.frames; words = store-words o w bits k }
  change-fit t (on.assign name v) k = record { bases = fit.bases; kinds = fit.kinds; frames = fit.frames; words = fit.words }
  change-fit t (on.print text) k = record { bases = fit.bases; kinds = fit.kinds; frames = fit.frames; words = fit.words }
  change-fit t (on.create class n) k = record { bases = fit.bases; kinds = fit.kinds; frames = fit.frames; words = create-words (Some class) n }
  change-fit t (on.kill o) k = record { bases = fit.bases; kinds = fit.kinds; frames = fit.frames; words = kill-words o }
  change-fit t (on.take l) k = record { bases = fit.bases; kinds = fit.kinds; frames = fit.frames; words = fit.words }
  change-fit t (on.free l) k = record { bases = fit.bases; kinds = fit.kinds; frames = fit.frames; words = fit.words }

  frames-with : (t : ℕ) (fs : Thread) → OfFrames Holds fs → (u : ℕ) → OfFrames Holds (upd m.frames t fs u)
  frames-with t fs h u = by (same u t)
    where
      by : (x : Bool) → OfFrames Holds (if x then fs else m.frames u)
      by true = h
      by false = fit.frames u

  pub with-thread : (t : ℕ) (fs : Thread) → OfFrames Holds fs → IsFit (record m { frames = upd m.frames t fs })
  with-thread t fs h = record { bases = fit.bases; kinds = fit.kinds; frames = frames-with t fs h; words = fit.words }

-- ---- a turn

state-fit : (now : State) (m : Total) → IsFit m → IsFit (with_state now m)
state-fit now m fit = record { bases = fit.bases; kinds = fit.kinds; frames = fit.frames; words = fit.words }

started-fit : (m : Total) → IsFit m → (g : Frame) → OfItems (IsDeclared m.setting.program) g.items → IsFit (record m { frames = upd m.frames m.started (g ∷ []); started = suc m.started })
started-fit m fit g k = record { bases = fit.bases; kinds = fit.kinds; frames = frames-with m fit m.started (g ∷ []) (k, tt); words = fit.words }

after-fit : (m : Total) → IsFit m → (t : ℕ) (x : Turn) → OfTurn (IsDeclared m.setting.program) (FitsNow m) x → IsFit (after_of t x m)
after-fit m fit t on.went k = state-fit state.Running m fit
after-fit m fit t (on.changed x) k = state-fit state.Running (change_of t x m) (change-fit m fit t x k)
after-fit m fit t (on.started g) k =
    state-fit state.Running (record m { frames = upd m.frames m.started (g ∷ []); started = suc m.started }) (started-fit m fit g k)
after-fit m fit t on.blocked k = state-fit state.Running m fit
after-fit m fit t on.idle k = state-fit state.Running m fit
after-fit m fit t (on.ended z) k = state-fit (state_after (on.ended z)) m fit
after-fit m fit t (on.halted o class) k = state-fit (state_after (on.halted o class)) m fit
after-fit m fit t (on.stopped cause at) k = state-fit (state_after (on.stopped cause at)) m fit

module _ (m : Total) (fit : IsFit m) (t : ℕ) where
  abbrev off : Thread → Reads
  off fs = reads (record m { frames = upd m.frames t fs }) t

  stores-fit : (fs : Thread) → StoresFit (Holds m fit) (FitsNow m) m.setting (off fs)
  stores-fit fs class name k o bits v declares other is live e =
      let not-other : is_other m.setting class (Some live) ≡ false = ap (is_other m.setting class) (sym e) ∙ other in
      let derives : is_of m.setting (Some live) (Some class) ≡ true = not-false (is_of m.setting (Some live) (Some class)) not-other in
      subst (λ n. bits_of k v < 2 ^ n) (sym (member-width m.setting fit.bases live class name k derives declares)) (bits-fit k v)

  abbrev went : Frame → Item → Thread → Settled
  went f i fs = let d = did f (act m.setting (off fs) t i f) in settled i fs d.0 d.1

  turn-fit : (f : Frame) (i : Item) (fs : Thread) → OfItem (Holds m fit) i → OfItems (Holds m fit) f.items → OfFrames (Holds m fit) fs → IsFit (turn_of m t (Some (f, i, fs))).0
  turn-fit f i fs q h r =
      let kept : OfSettled (Holds m fit) (FitsNow m) (went f i fs) =
      settled-kept (Holds m fit) (FitsNow m) (act m.setting (off fs) t i f) i f fs
      (act-kept (Holds m fit) (FitsNow m) m.setting (off fs) fit.kinds (stores-fit fs) t i f q h) q h r in
      after-fit (record m { frames = upd m.frames t (went f i fs).0 }) (with-thread m fit t (went f i fs).0 kept.0) t (went f i fs).1 kept.1

  item-fit : (f : Frame) (fs : Thread) (is : List Item) → OfItems (Holds m fit) is → OfFrames (Holds m fit) fs → IsFit (turn_of m t (off_item f fs is)).0
  item-fit f fs [] h r = state-fit state.Running m fit
  item-fit f fs (i ∷ is) h r = turn-fit (record f { items = is }) i fs h.0 h.1 r

  thread-fit : (th : Thread) → OfFrames (Holds m fit) th → IsFit (turn_of m t (off_thread th)).0
  thread-fit [] h = state-fit state.Running m fit
  thread-fit (f ∷ fs) h = item-fit f fs f.items h.0 h.1

  next-if-fit : (now : State) → IsFit (next_if now m t).0
  next-if-fit state.Running = thread-fit (m.frames t) (fit.frames t)
  next-if-fit (state.Ended z) = fit
  next-if-fit (state.Stopped cause at) = fit
  next-if-fit (state.Halted o class) = fit
  next-if-fit state.Lost = fit

pub next-fit : (m : Total) (t : ℕ) → IsFit m → IsFit (next_of m t).0
next-fit m t fit = next-if-fit m fit t m.state

-- ---- a flip

module _ (m : Total) (o w bit : ℕ) (fit : IsFit m) where
  bit-below : (class : ClassId) (x : Option ClassId) → x ≡ Some class → is_bit m.setting x w bit ≡ true → bit < width_of m.setting class w
  bit-below class None e h = absurd (none-some class e)
  bit-below class (Some y) e h = subst (λ c. bit < width_of m.setting c w) (same_Some y class e) (ltb-true bit (width_of m.setting y w) h)

  inverted-fits : (bits : ℕ) → m.word o w ≡ Some bits → is_bit m.setting (m.class o) w bit ≡ true → FitsNow m o w (inverted bits bit)
  inverted-fits bits z h class e =
      xor_lt (width_of m.setting class w) bits (2 ^ bit) (fit.words o w bits class e z)
      (pow-lt {i = bit} {j = width_of m.setting class w} (bit-below class (m.class o) e h))

  flip-if : (bits : ℕ) → m.word o w ≡ Some bits → (b : Bool) → is_bit m.setting (m.class o) w bit ≡ b
      → IsFit (if◌then◌else◌ {A = FlippedOf} b (with_bits_of o w (inverted bits bit) m, true) (m, false)).0
  flip-if bits z true h = change-fit m fit 0 (on.store o w (inverted bits bit)) (inverted-fits bits z h)
  flip-if bits z false h = fit

  flip-by : (x : Option ℕ) → m.word o w ≡ x → IsFit (flipped_of_by x o w bit m).0
  flip-by None z = fit
  flip-by (Some bits) z = flip-if bits z (is_bit m.setting (m.class o) w bit) refl

pub flip-fit : (m : Total) (o w bit : ℕ) → IsFit m → IsFit (flipped_of o w bit m).0
unfolding flipped_of
flip-fit m o w bit fit = flip-by m o w bit fit (m.word o w) refl
