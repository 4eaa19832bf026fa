-- What a turn wakes: what becomes admissible in it, and what waits on.
use Rattle.std.proofs.Common.{◌≡◌, ◌⊎◌, inl, inr, ◌<◌, ◌≤◌, ℕ, zero, suc, nat_lt, List, [], ◌∷◌, length, Bool, true, false, not, ◌&&◌, Option, Some, None, refl, ap, slice_get, find, flat_map, nat_eq, if◌then◌else◌, sym, subst, ◌∙◌, arith, true≢false}
use Rattle.std.proofs.lemmas.Bool.Decides.{nat_tests}
use Rattle.agxx_base.specs.declared.ids.ClassId.{ClassId}
use Rattle.cxx_core.specs.CoreProgram.{CoreClass}
use Rattle.cxx_arith.specs.Kinds.{width}
use Rattle.flip_plan.specs.declared.flip.PlannedFlip.{PlannedFlip}
use Rattle.step_machine.specs.declared.outcome.State.{State}
use Rattle.step_machine.specs.declared.outcome.State.TheVariants as state
use Rattle.step_machine.specs.Setting.{Setting, line_in}
use Rattle.step_machine.specs.Effects as on
use Rattle.step_machine.specs.Effects.{Change, Turn}
use Rattle.step_machine.specs.World.{class_at, class_by}
use Rattle.step_machine.specs.Machine.{Machine, next}
use Rattle.step_machine.specs.Total.{Total, NextOf, OffThread, reading, next_if, turn_of, off_thread, after_of}
use Rattle.step_machine.proofs.Turns.{agree}
use Rattle.fault_model.specs.Parts.{PartWord, number_of, words_with_class, part_word_at}
use Rattle.fault_model.specs.Inside.{is_inside}
use Rattle.fault_model.specs.Admissible.{Hits, while_out, goes_with, is_admissible_at, is_admissible, part_word_of}
use Rattle.fault_model.proofs.Stays.{stays-change}
use Rattle.fault_lines.specs.Lines.{IsOn}
use Rattle.fault_lines.specs.Wakes.{LinesAreWoken, IsLeft, IsMade, IsFor, IsDead}

-- ---- how many objects there are

-- as many as before, or one more
abbrev Grows : ℕ → ℕ → Type 0
Grows before now = (now ≡ before) ⊎ (now ≡ suc before)

grows-after : (t : ℕ) (r : Turn) (m : Total) → Grows m.made (after_of t r m).made
grows-after t on.went m = inl refl
grows-after t on.blocked m = inl refl
grows-after t on.idle m = inl refl
grows-after t (on.started f) m = inl refl
grows-after t (on.ended z) m = inl refl
grows-after t (on.halted p made) m = inl refl
grows-after t (on.stopped cause at) m = inl refl
grows-after t (on.changed c) m = by c
  where
    by : (c : Change) → Grows m.made (after_of t (on.changed c) m).made
    by (on.store p w bits) = inl refl
    by (on.assign name v) = inl refl
    by (on.print text) = inl refl
    by (on.take l) = inl refl
    by (on.free l) = inl refl
    by (on.create class words) = inr refl
    by (on.kill p) = inl refl

grows-turn : (m : Total) (t : ℕ) (off : Option OffThread) → Grows m.made (turn_of m t off).0.made
grows-turn m t None = inl refl
grows-turn m t (Some o) = grows-after t _ (record m { frames = _ })

grows-if : (now : State) (m : Total) (t : ℕ) → Grows m.made (next_if now m t).0.made
grows-if state.Running m t = grows-turn m t (off_thread (m.frames t))
grows-if (state.Ended v) m t = inl refl
grows-if (state.Stopped cause at) m t = inl refl
grows-if (state.Halted o class) m t = inl refl
grows-if state.Lost m t = inl refl

grows : (m : Machine) (t : ℕ) → Grows (length m.world.objects) (length (next m t).0.world.objects)
grows m t =
    subst (λ (x : NextOf). Grows (length m.world.objects) x.0.made) (sym (agree.of_next m t)) (grows-if m.state (reading m) t)

still-made : (o before now : ℕ) → Grows before now → o < before → o < now
still-made o before now (inl e) h = omega (arith, e, h)
still-made o before now (inr e) h = omega (arith, e, h)

not-last : {P : Type 0} (o n : ℕ) → o < n → o ≡ n → P
not-last o n h e = absurd (omega (arith, h, e))

or-last : (o before now : ℕ) → Grows before now → before ≤ o → (now ≤ o) ⊎ ((o ≡ before) × (now ≡ suc before))
or-last o before now (inl e) h = inl (omega (arith, e, h))
or-last o before now (inr e) h = go (nat_lt before o) refl
  where
    go : (b : Bool) → nat_lt before o ≡ b → (now ≤ o) ⊎ ((o ≡ before) × (now ≡ suc before))
    go true q = inl (grind (arith, nat_tests))
    go false q = inr (grind (arith, nat_tests), e)

-- ---- where nothing is there

get-beyond : {A : Type 0} (xs : List A) (o : ℕ) → length xs ≤ o → slice_get xs o ≡ None
get-beyond [] o h = refl
get-beyond (x ∷ xs) zero h = absurd (omega (arith, h))
get-beyond (x ∷ xs) (suc o) h = get-beyond xs o (omega (arith, h))

line-of-none : (classes : List CoreClass) (n : ℕ) → line_in classes n None ≡ []
line-of-none classes zero = refl
line-of-none classes (suc n) = refl

no-word : (s : Setting) (n : ℕ) → part_word_at s None n ≡ None
no-word s n =
    ap (λ l. find (λ p. nat_eq (number_of s p) n) (flat_map (words_with_class s) l))
    (line-of-none s.program.classes (length s.program.classes))

none-admits : (m : Total) (hits : Hits) (f : PlannedFlip) → m.class f.object.0 ≡ None → is_admissible m hits f ≡ false
none-admits m hits f e =
    ap (is_admissible_at m hits f.object.0 f.bit) (ap (λ c. part_word_at m.setting c f.word) e ∙ no-word m.setting f.word)

-- ---- on a part, and on none

clash : {P : Type 0} → false ≡ true → P
clash e = absurd (true≢false (sym e))

word_or : PartWord → Option PartWord → PartWord
word_or w None = w
word_or w (Some v) = v

same-word : (found : Option PartWord) (v w : PartWord) → found ≡ Some v → found ≡ Some w → v ≡ w
unfolding word_or
same-word found v w e d = ap (word_or v) (sym e ∙ d)

no-some : {P : Type 0} (found : Option PartWord) (w : PartWord) → found ≡ None → found ≡ Some w → P
no-some found w e d = cc (e, d)

on-word : (m : Total) (f : PlannedFlip) (w : PartWord) → part_word_of m f ≡ Some w → nat_lt f.bit (width w.word.kind) ≡ true → IsOn m w.class f
on-word m f w e q = record { word = w; is_word = e; of_class = refl; is_bit = q }

on-alike : (m n : Total) (f : PlannedFlip) (class : ClassId) → part_word_of n f ≡ part_word_of m f → IsOn m class f → IsOn n class f
on-alike m n f class e h = record { word = h.word; is_word = e ∙ h.is_word; of_class = h.of_class; is_bit = h.is_bit }

one-part : (m : Total) (f : PlannedFlip) (class other : ClassId) → IsOn m class f → IsOn m other f → class ≡ other
one-part m f class other h k =
    sym h.of_class ∙ ap (λ (w : PartWord). w.class) (same-word (part_word_of m f) h.word k.word h.is_word k.is_word) ∙ k.of_class

abbrev IsOff : Total → PlannedFlip → Type 0
IsOff m f = (class : ClassId) → IsOn m class f → ⊥

off-admits : (m : Total) (hits : Hits) (f : PlannedFlip) → IsOff m f → (found : Option PartWord) → part_word_of m f ≡ found
    → is_admissible_at m hits f.object.0 f.bit found ≡ false
off-admits m hits f off None e = refl
off-admits m hits f off (Some w) e = go (nat_lt f.bit (width w.word.kind)) refl
  where
    go : (b : Bool) → nat_lt f.bit (width w.word.kind) ≡ b
        → (b && (not (is_inside m f.object.0 w.class) && goes_with true (hits f.object.0 w.class) f.bit)) ≡ false
    go true q = absurd (off w.class (on-word m f w e q))
    go false q = refl

dead-admits : (m : Total) (hits : Hits) (f : PlannedFlip) → (m.class f.object.0 ≡ None) ⊎ IsOff m f → is_admissible m hits f ≡ false
dead-admits m hits f (inl e) = none-admits m hits f e
dead-admits m hits f (inr off) = off-admits m hits f off (part_word_of m f) refl

-- what it is by its word, where its object was made
pub for-part : (m : Total) (f : PlannedFlip) (w : PartWord) → f.object.0 < m.made → part_word_of m f ≡ Some w
    → nat_lt f.bit (width w.word.kind) ≡ true → IsFor m f (Some w.class)
for-part m f w h e q = (h, inr (on-word m f w e q))

pub dead-without : (m : Total) (f : PlannedFlip) → f.object.0 < m.made → part_word_of m f ≡ None → IsDead m f
dead-without m f h e = (h, inr (λ class on. no-some (part_word_of m f) on.word e on.is_word))

pub dead-beyond : (m : Total) (f : PlannedFlip) (w : PartWord) → f.object.0 < m.made → part_word_of m f ≡ Some w
    → nat_lt f.bit (width w.word.kind) ≡ false → IsDead m f
dead-beyond m f w h e q = (
  h,
  inr (λ class on. clash (sym q
      ∙ ap (λ (v : PartWord). nat_lt f.bit (width v.word.kind)) (same-word (part_word_of m f) w on.word e on.is_word)
      ∙ on.is_bit)),
)

for-or-dead : (m : Total) (f : PlannedFlip) → f.object.0 < m.made → (found : Option PartWord) → part_word_of m f ≡ found
    → ((class : ClassId) × IsFor m f (Some class)) ⊎ IsDead m f
for-or-dead m f h None e = inr (dead-without m f h e)
for-or-dead m f h (Some w) e = go (nat_lt f.bit (width w.word.kind)) refl
  where
    go : (b : Bool) → nat_lt f.bit (width w.word.kind) ≡ b → ((class : ClassId) × IsFor m f (Some class)) ⊎ IsDead m f
    go true q = inl (w.class, for-part m f w h e q)
    go false q = inr (dead-beyond m f w h e q)

-- ---- a turn

abbrev later : Machine → ℕ → Total
later m t = reading (next m t).0

-- an object keeps its class, or is destroyed, or is the one that was made
abbrev Classes : Machine → ℕ → ℕ → Type 0
Classes m t o = (class_at (next m t).0.world o ≡ class_at m.world o) ⊎ ((class_at (next m t).0.world o ≡ None)
    ⊎ ((o ≡ length m.world.objects) × (length (next m t).0.world.objects ≡ suc (length m.world.objects))))

-- where its object keeps its class, its word is of the same part
part-stays : (m : Machine) (t : ℕ) (f : PlannedFlip) → class_at (next m t).0.world f.object.0 ≡ class_at m.world f.object.0
    → part_word_of (later m t) f ≡ part_word_of (reading m) f
part-stays m t f e = λ i. part_word_at (stays-change.setting m t i) (e i) f.word

keeps-for : (m : Machine) (t : ℕ) (f : PlannedFlip) (class : ClassId) → IsFor (reading m) f (Some class) → IsFor (later m t) f (Some class)
keeps-for m t f class h = (
  still-made f.object.0 (length m.world.objects) (length (next m t).0.world.objects) (grows m t) h.0,
  go (stays-change.class m t f.object.0) h.1,
)
  where
    go : Classes m t f.object.0
        → (class_at m.world f.object.0 ≡ None) ⊎ IsOn (reading m) class f
        → (class_at (next m t).0.world f.object.0 ≡ None) ⊎ IsOn (later m t) class f
    go (inl e) (inl d) = inl (e ∙ d)
    go (inl e) (inr on) = inr (on-alike (reading m) (later m t) f class (part-stays m t f e) on)
    go (inr (inl e)) x = inl e
    go (inr (inr e)) x = not-last f.object.0 (length m.world.objects) h.0 e.0

keeps-dead : (m : Machine) (t : ℕ) (f : PlannedFlip) → IsDead (reading m) f → IsDead (later m t) f
keeps-dead m t f h = (
  still-made f.object.0 (length m.world.objects) (length (next m t).0.world.objects) (grows m t) h.0,
  go (stays-change.class m t f.object.0) h.1,
)
  where
    go : Classes m t f.object.0
        → (class_at m.world f.object.0 ≡ None) ⊎ IsOff (reading m) f
        → (class_at (next m t).0.world f.object.0 ≡ None) ⊎ IsOff (later m t) f
    go (inl e) (inl d) = inl (e ∙ d)
    go (inl e) (inr off) = inr (λ class on. off class (on-alike (later m t) (reading m) f class (sym (part-stays m t f e)) on))
    go (inr (inl e)) x = inl e
    go (inr (inr e)) x = not-last f.object.0 (length m.world.objects) h.0 e.0

keeps-unmade : (m : Machine) (t : ℕ) (f : PlannedFlip) → IsFor (reading m) f None → IsFor (later m t) f None ⊎ IsMade m t f
keeps-unmade m t f h =
    go (or-last f.object.0 (length m.world.objects) (length (next m t).0.world.objects) (grows m t) h)
  where
    go : (length (next m t).0.world.objects ≤ f.object.0)
        ⊎ ((f.object.0 ≡ length m.world.objects) × (length (next m t).0.world.objects ≡ suc (length m.world.objects)))
        → IsFor (later m t) f None ⊎ IsMade m t f
    go (inl e) = inl e
    go (inr e) = inr (record { object = e.0; made = e.1 })

-- ---- what becomes admissible

both : (a b : Bool) → (a && b) ≡ true → (a ≡ true) × (b ≡ true)
both true b e = (refl, e)
both false b e = cc

not-true : (a : Bool) → not a ≡ true → a ≡ false
not-true true e = cc
not-true false e = refl

left-by : (m : Machine) (t : ℕ) (hits : Hits) (f : PlannedFlip) (found : Option PartWord) → part_word_of (reading m) f ≡ found
    → is_admissible_at (reading m) hits f.object.0 f.bit found ≡ false
    → is_admissible_at (later m t) (while_out (later m t) hits) f.object.0 f.bit found ≡ true → IsLeft m t f
left-by m t hits f None e p q = clash q
left-by m t hits f (Some w) e p q = go (is_inside (reading m) f.object.0 w.class) refl
  where
    facts : (nat_lt f.bit (width w.word.kind) ≡ true)
        × ((not (is_inside (later m t) f.object.0 w.class) && goes_with true (while_out (later m t) hits f.object.0 w.class) f.bit) ≡ true)
    facts = both (nat_lt f.bit (width w.word.kind)) _ q

    nobody : is_inside (later m t) f.object.0 w.class ≡ false
    nobody = not-true (is_inside (later m t) f.object.0 w.class) (both (not (is_inside (later m t) f.object.0 w.class)) _ facts.1).0

    goes : goes_with true (hits f.object.0 w.class) f.bit ≡ true
    goes =
        sym (ap (λ b. goes_with true (if b then [] else hits f.object.0 w.class) f.bit) nobody)
        ∙ (both (not (is_inside (later m t) f.object.0 w.class)) _ facts.1).1

    go : (b : Bool) → is_inside (reading m) f.object.0 w.class ≡ b → IsLeft m t f
    go false r = clash (sym p ∙ λ i. facts.0 i && (not (r i) && goes i))
    go true r =
        let x = stays-change.goes m t f.object.0 w.class r nobody in
        record { class = w.class; on = on-word (reading m) f w e facts.0; top = x.0; gone = x.1 }

wakes : (m : Machine) (t : ℕ) (hits : Hits) (f : PlannedFlip) → is_admissible (reading m) hits f ≡ false
    → is_admissible (later m t) (while_out (later m t) hits) f ≡ true → IsLeft m t f ⊎ IsMade m t f
wakes m t hits f p q = go (stays-change.class m t f.object.0)
  where
    go : Classes m t f.object.0 → IsLeft m t f ⊎ IsMade m t f
    go (inl e) = inl (left-by m t hits f (part_word_of (reading m) f) refl p
        (sym (ap (is_admissible_at (later m t) (while_out (later m t) hits) f.object.0 f.bit) (part-stays m t f e)) ∙ q))
    go (inr (inl e)) = clash (sym (none-admits (later m t) (while_out (later m t) hits) f e) ∙ q)
    go (inr (inr e)) = inr (record { object = e.0; made = e.1 })

pub lines-are-woken : LinesAreWoken
lines-are-woken = record {
  wakes = wakes;
  keeps_for = keeps-for;
  keeps_unmade = keeps-unmade;
  keeps_dead = keeps-dead;
  dead = λ m hits f h. dead-admits m hits f h.1;
  cases = λ m f h. for-or-dead m f h (part_word_of m f) refl;
  one_part = one-part;
  unmade = λ m hits f h. none-admits (reading m) hits f (ap class_by (get-beyond m.world.objects f.object.0 h));
}
