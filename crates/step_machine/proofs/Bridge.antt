-- A run's state as lists and as functions go the same way.
use Rattle.std.proofs.Common.{◌≡◌, ℕ, zero, suc, if◌then◌else◌, List, [], ◌∷◌, ◌++◌, length, Bool, true, false, Option, Some, None, slice_get, slice_set, refl, ap, ◌∙◌}
use Rattle.std.proofs.Math.Path.{fun_ext}
use Rattle.agxx_base.specs.declared.ids.ClassId.{ClassId}
use Rattle.step_machine.specs.declared.datum.Datum.{Datum}
use Rattle.step_machine.specs.Entries.{entry}
use Rattle.step_machine.specs.Setting.{Setting}
use Rattle.step_machine.specs.Frame.{Frame, are_on, any_on}
use Rattle.step_machine.specs.Effects as on
use Rattle.step_machine.specs.Effects.{Lock, Change, Turn}
use Rattle.step_machine.specs.Turn.{Thread, Threads, thread_at, frames_of}
use Rattle.step_machine.specs.World.{Object, World, word_at, word_by, class_by, holder_by, holder_in, class_at, holder_at, variable_at, value_or_null, new_object, with_word, with_holder, killed, changed, held}
use Rattle.step_machine.specs.Machine.{Machine, reads_of, after, state_after}
use Rattle.step_machine.specs.Total.{Total, reading, reads, same, upd, upd_lock, busy_in, stored, zero_words, without_object, is_some_class, is_there, held_of, after_of}
use Rattle.step_machine.specs.Flips.{Flipped, FlippedOf, flipped, flipped_by, flipped_of, flipped_of_by, is_bit, inverted, with_bits, with_bits_of}
use Rattle.step_machine.proofs.Same.{same-eq, get-set, get-snoc, length-snoc, entry-with}
use Rattle.step_machine.proofs.Objects.{objects_with, get-with, length-with, kept, lost, dead-word, dead-class, dead-holder, word-stored, holder-set, holder-unset, new-at, new-holder}

-- ---- what is read

-- which of two tests comes first is the same
either-first : (a b c : Bool) → (if a then true else (if b then true else c)) ≡ (if b then true else (if a then true else c))
either-first true true c = refl
either-first true false c = refl
either-first false true c = refl
either-first false false c = refl

-- the first of the threads can be looked at first
busy-first : (frames : ℕ → Thread) (n o : ℕ)
    → busy_in frames (suc n) o ≡ (if are_on o (frames 0) then true else busy_in (λ t. frames (suc t)) n o)
busy-first frames zero o = refl
busy-first frames (suc n) o =
    ap (λ b. if are_on o (frames (suc n)) then true else b) (busy-first frames n o)
    ∙ either-first (are_on o (frames (suc n))) (are_on o (frames 0)) (busy_in (λ t. frames (suc t)) n o)

pub busy-is : (ths : Threads) (o : ℕ) → busy_in (thread_at ths) (length ths) o ≡ any_on o ths
busy-is [] o = refl
busy-is (fs ∷ ths) o =
    busy-first (thread_at (fs ∷ ths)) (length ths) o ∙ ap (λ b. if are_on o fs then true else b) (busy-is ths o)

pub reads-is : (m : Machine) (t : ℕ) → reads (reading m) t ≡ reads_of m.setting m.world t m.threads
reads-is m t = ap (λ b. record (reads_of m.setting m.world t m.threads) { is_busy = b }) (fun_ext (λ o. busy-is m.threads o))

-- ---- a word stored

store-word : (objects : List Object) (o w bits p v : ℕ)
    → word_by (slice_get (objects_with (with_word w bits) objects o) p) v ≡ stored (λ q u. word_by (slice_get objects q) u) o w bits p v
store-word objects o w bits p v =
    ap (λ x. word_by x v) (get-with (with_word w bits) objects o p) ∙ word-stored w bits v (same p o) (slice_get objects p)

-- what a change of an object leaves
left-class : (change : Object → Object) → ((x : Object) → class_by (Some (change x)) ≡ class_by (Some x))
    → (objects : List Object) (o p : ℕ) → class_by (slice_get (objects_with change objects o) p) ≡ class_by (slice_get objects p)
left-class change h objects o p =
    ap class_by (get-with change objects o p) ∙ kept class_by change h (same p o) (slice_get objects p)

left-word : (change : Object → Object) (v : ℕ) → ((x : Object) → word_by (Some (change x)) v ≡ word_by (Some x) v)
    → (objects : List Object) (o p : ℕ) → word_by (slice_get (objects_with change objects o) p) v ≡ word_by (slice_get objects p) v
left-word change v h objects o p =
    ap (λ x. word_by x v) (get-with change objects o p) ∙ kept (λ x. word_by x v) change h (same p o) (slice_get objects p)

abbrev with_objects : World → List Object → World
with_objects world objects = record world { objects = objects }

store-holder : (world : World) (o w bits : ℕ) (l : Lock) → holder_at (with_objects world (objects_with (with_word w bits) world.objects o)) l ≡ holder_at world l
store-holder world o w bits (on.shared name) = refl
store-holder world o w bits (on.inside p k) =
    ap (λ x. holder_by x k) (get-with (with_word w bits) world.objects o p)
    ∙ kept (λ x. holder_by x k) (with_word w bits) (λ x. refl) (same p o) (slice_get world.objects p)

-- ---- an object destroyed

spread : {A B : Type 0} (b : Bool) (f g : A → B) (a : A) → (if b then f a else g a) ≡ (if b then f else g) a
spread true f g a = refl
spread false f g a = refl

kill-word : (objects : List Object) (o p v : ℕ) → word_by (slice_get (objects_with killed objects o) p) v ≡ upd {A = ℕ → Option ℕ} (λ q u. word_by (slice_get objects q) u) o (λ u. None) p v
kill-word objects o p v =
    ap (λ x. word_by x v) (get-with killed objects o p)
    ∙ lost (λ x. word_by x v) killed None refl (dead-word v) (λ x. refl) (same p o) (slice_get objects p)
    ∙ spread (same p o) (λ u. None) (λ u. word_by (slice_get objects p) u) v

kill-class : (objects : List Object) (o p : ℕ) → class_by (slice_get (objects_with killed objects o) p) ≡ upd (λ q. class_by (slice_get objects q)) o None p
kill-class objects o p =
    ap class_by (get-with killed objects o p) ∙ lost class_by killed None refl dead-class (λ x. refl) (same p o) (slice_get objects p)

kill-holder : (world : World) (o : ℕ) (l : Lock) → holder_at (with_objects world (objects_with killed world.objects o)) l ≡ without_object (holder_at world) o l
kill-holder world o (on.shared name) = refl
kill-holder world o (on.inside p k) =
    ap (λ x. holder_by x k) (get-with killed world.objects o p)
    ∙ lost (λ x. holder_by x k) killed None refl (dead-holder k) (λ x. refl) (same p o) (slice_get world.objects p)

-- ---- an object made

create-word : (objects : List Object) (class : ClassId) (words p v : ℕ)
    → word_by (slice_get (objects ++ new_object class words ∷ []) p) v ≡ upd {A = ℕ → Option ℕ} (λ q u. word_by (slice_get objects q) u) (length objects) (zero_words words) p v
create-word objects class words p v =
    new-at (λ x. word_by x v) objects class words p
    ∙ spread (same p (length objects)) (zero_words words) (λ u. word_by (slice_get objects p) u) v

create-class : (objects : List Object) (class : ClassId) (words p : ℕ)
    → class_by (slice_get (objects ++ new_object class words ∷ []) p) ≡ upd (λ q. class_by (slice_get objects q)) (length objects) (Some class) p
create-class objects class words p = new-at class_by objects class words p

create-holder : (world : World) (class : ClassId) (words : ℕ) (l : Lock) → holder_at (with_objects world (world.objects ++ new_object class words ∷ [])) l ≡ holder_at world l
create-holder world class words (on.shared name) = refl
create-holder world class words (on.inside p k) = new-holder world.objects class words p k

-- ---- a mutex taken or freed

held-shared : (world : World) (name : ℕ) (h : Option ℕ) (l : Lock) → holder_at (held (on.shared name) h world) l ≡ upd_lock (holder_at world) (on.shared name) h l
held-shared world name h (on.inside p k) = refl
held-shared world name h (on.shared other) =
    ap holder_in (entry-with world.holders name h other) ∙ go (same other name)
  where
    go : (b : Bool) → holder_in (if b then Some h else entry world.holders other) ≡ (if b then h else holder_in (entry world.holders other))
    go true = refl
    go false = refl

held-inside : (world : World) (o m : ℕ) (h : Option ℕ) (found : Option ClassId) → class_at world o ≡ found
    → (l : Lock) → holder_at (held (on.inside o m) h world) l ≡ (if is_some_class found then upd_lock (holder_at world) (on.inside o m) h else holder_at world) l
held-inside world o m h None e (on.shared name) = refl
held-inside world o m h (Some class) e (on.shared name) = refl
held-inside world o m h None e (on.inside p k) =
    ap (λ x. holder_by x k) (get-with (with_holder m h) world.objects o p)
    ∙ holder-unset m k h (same p o) (slice_get world.objects p) (λ q. ap (λ z. class_at world z) (same-eq p o q) ∙ e)
held-inside world o m h (Some class) e (on.inside p k) =
    ap (λ x. holder_by x k) (get-with (with_holder m h) world.objects o p)
    ∙ holder-set m k h (same p o) (slice_get world.objects p) class (λ q. ap (λ z. class_at world z) (same-eq p o q) ∙ e)

-- ---- the values of globals

assign-is : (world : World) (name : ℕ) (v : Datum) (k : ℕ) → variable_at (changed 0 (on.assign name v) world) k ≡ upd (variable_at world) name v k
assign-is world name v k = ap value_or_null (entry-with world.variables name v k) ∙ go (same k name)
  where
    go : (b : Bool) → value_or_null (if b then Some v else entry world.variables k) ≡ (if b then v else value_or_null (entry world.variables k))
    go true = refl
    go false = refl

-- ---- threads

pub start-is : (ths : Threads) (f : Frame) (t : ℕ) → thread_at (ths ++ (f ∷ []) ∷ []) t ≡ upd (thread_at ths) (length ths) (f ∷ []) t
start-is ths f t = ap frames_of (get-snoc ths t (f ∷ [])) ∙ go (same t (length ths))
  where
    go : (b : Bool) → frames_of (if b then Some (f ∷ []) else slice_get ths t) ≡ (if b then f ∷ [] else frames_of (slice_get ths t))
    go true = refl
    go false = refl

pub put-is : (ths : Threads) (t q : ℕ) (fs old : Thread) → slice_get ths t ≡ Some old → thread_at (slice_set ths t fs) q ≡ upd (thread_at ths) t fs q
put-is ths t q fs old e = ap frames_of (get-set ths t q fs old e) ∙ go (same q t)
  where
    go : (b : Bool) → frames_of (if b then Some fs else slice_get ths q) ≡ (if b then fs else frames_of (slice_get ths q))
    go true = refl
    go false = refl

-- ---- a turn's effect on what is shared

abbrev told : Machine → ℕ → Turn → Total
told m t r = record (reading m) { state = state_after r }

held-is : (m : Machine) (t : ℕ) (l : Lock) (h : Option ℕ) (k : Lock)
    → holder_at (held l h m.world) k ≡ (if is_there (class_at m.world) l then upd_lock (holder_at m.world) l h else holder_at m.world) k
held-is m t (on.shared name) h k = held-shared m.world name h k
held-is m t (on.inside o n) h k = held-inside m.world o n h (class_at m.world o) refl k

held-total : (m : Machine) (t : ℕ) (l : Lock) (h : Option ℕ) (r : Turn)
    → record (reading (record m { world = held l h m.world })) { state = state_after r } ≡ record (held_of l h (reading m)) { state = state_after r }
held-total m t (on.shared name) h r = λ i. record (told m t r) { holder = λ k. held-shared m.world name h k i }
held-total m t (on.inside o n) h r = λ i. record (told m t r) {
  word = λ p v. left-word (with_holder n h) v (λ x. refl) m.world.objects o p i;
  class = λ p. left-class (with_holder n h) (λ x. refl) m.world.objects o p i;
  made = length-with (with_holder n h) m.world.objects o i;
  holder = λ k. held-inside m.world o n h (class_at m.world o) refl k i;
}

changed-is : (m : Machine) (t : ℕ) (c : Change) → reading (after t (on.changed c) m) ≡ after_of t (on.changed c) (reading m)
changed-is m t (on.store o w bits) = λ i. record (told m t (on.changed (on.store o w bits))) {
  word = λ p v. store-word m.world.objects o w bits p v i;
  class = λ p. left-class (with_word w bits) (λ x. refl) m.world.objects o p i;
  made = length-with (with_word w bits) m.world.objects o i;
  holder = λ k. store-holder m.world o w bits k i;
}
changed-is m t (on.assign name v) = λ i. record (told m t (on.changed (on.assign name v))) { variable = λ k. assign-is m.world name v k i }
changed-is m t (on.print text) = refl
changed-is m t (on.create class words) = λ i. record (told m t (on.changed (on.create class words))) {
  word = λ p v. create-word m.world.objects class words p v i;
  class = λ p. create-class m.world.objects class words p i;
  made = length-snoc m.world.objects (new_object class words) i;
  holder = λ k. create-holder m.world class words k i;
}
changed-is m t (on.kill o) = λ i. record (told m t (on.changed (on.kill o))) {
  word = λ p v. kill-word m.world.objects o p v i;
  class = λ p. kill-class m.world.objects o p i;
  made = length-with killed m.world.objects o i;
  holder = λ k. kill-holder m.world o k i;
}
changed-is m t (on.take l) = held-total m t l (Some t) (on.changed (on.take l))
changed-is m t (on.free l) = held-total m t l None (on.changed (on.free l))

pub after-is : (m : Machine) (t : ℕ) (r : Turn) → reading (after t r m) ≡ after_of t r (reading m)
after-is m t on.went = refl
after-is m t (on.changed c) = changed-is m t c
after-is m t (on.started f) = λ i. record (told m t (on.started f)) {
  frames = λ q. start-is m.threads f q i;
  started = length-snoc m.threads (f ∷ []) i;
}
after-is m t on.blocked = refl
after-is m t on.idle = refl
after-is m t (on.ended z) = refl
after-is m t (on.halted o class) = refl
after-is m t (on.stopped cause at) = refl

-- ---- a flip

bits-told : (m : Machine) (o w bits : ℕ) → reading (with_bits o w bits m) ≡ with_bits_of o w bits (reading m)
bits-told m o w bits = λ i. record (reading m) {
  word = λ p v. store-word m.world.objects o w bits p v i;
  class = λ p. left-class (with_word w bits) (λ x. refl) m.world.objects o p i;
  made = length-with (with_word w bits) m.world.objects o i;
  holder = λ k. store-holder m.world o w bits k i;
}

abbrev told-flip : Flipped → FlippedOf
told-flip f = (reading f.0, f.1)

flip-by : (x : Option ℕ) (m : Machine) (o w bit : ℕ)
    → told-flip (flipped_by x o w bit m) ≡ flipped_of_by x o w bit (reading m)
flip-by None m o w bit = refl
flip-by (Some bits) m o w bit = go (is_bit m.setting (class_at m.world o) w bit)
  where
    go : (b : Bool) → told-flip (if b then (with_bits o w (inverted bits bit) m, true) else (m, false))
        ≡ (if b then (with_bits_of o w (inverted bits bit) (reading m), true) else (reading m, false))
    go true = ap (λ x. (x, true)) (bits-told m o w (inverted bits bit))
    go false = refl

pub flip-is : (m : Machine) (o w bit : ℕ) → (reading (flipped o w bit m).0, (flipped o w bit m).1) ≡ flipped_of o w bit (reading m)
unfolding flipped flipped_of
flip-is m o w bit = flip-by (word_at m.world o w) m o w bit
