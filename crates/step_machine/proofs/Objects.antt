-- A change of objects in lists is one of functions.
use Rattle.std.proofs.Common.{◌≡◌, ℕ, zero, suc, if◌then◌else◌, List, [], ◌∷◌, ◌++◌, length, Bool, true, false, ◌&&◌, Option, Some, None, option_map, slice_get, slice_set, refl, ap, sym, ◌∙◌}
use Rattle.std.proofs.lemmas.List.{length-set}
use Rattle.agxx_base.specs.declared.ids.ClassId.{ClassId}
use Rattle.step_machine.specs.Entries.{entry}
use Rattle.step_machine.specs.World.{Object, word_by, class_by, holder_by, holder_in, new_object, with_word, with_holder, object_changed_by}
use Rattle.step_machine.specs.Total.{same}
use Rattle.step_machine.proofs.Same.{same-eq, get-set, get-snoc, get-end, entry-with}

-- a live object changed
abbrev pub changed_if : Bool → (Object → Object) → Object → Object
changed_if live change x = if live then change x else x

abbrev pub alive : (Object → Object) → Object → Object
alive change x = changed_if x.live change x

abbrev pub object_then : (Object → Object) → Bool → Option Object → Option Object
object_then change b x = if b then option_map (alive change) x else x

abbrev pub objects_with : (Object → Object) → List Object → ℕ → List Object
objects_with change objects o = object_changed_by (slice_get objects o) o change objects

at-same : (objects : List Object) (p o : ℕ) (x : Option Object) → same p o ≡ true → slice_get objects o ≡ x → slice_get objects p ≡ x
at-same objects p o x q e = ap (slice_get objects) (same-eq p o q) ∙ e

-- ---- where an object stands

pub get-with : (change : Object → Object) (objects : List Object) (o p : ℕ) → slice_get (objects_with change objects o) p ≡ object_then change (same p o) (slice_get objects p)
get-with change objects o p = go (slice_get objects o) refl
  where
    none : (b : Bool) → same p o ≡ b → slice_get objects o ≡ None → slice_get objects p ≡ object_then change b (slice_get objects p)
    none false q e = refl
    none true q e = at-same objects p o None q e ∙ sym (ap (option_map (alive change)) (at-same objects p o None q e))

    dead : (x : Object) (b : Bool) → same p o ≡ b → x.live ≡ false → slice_get objects o ≡ Some x → slice_get objects p ≡ object_then change b (slice_get objects p)
    dead x false q l e = refl
    dead x true q l e =
        at-same objects p o (Some x) q e
        ∙ sym (ap (option_map (alive change)) (at-same objects p o (Some x) q e) ∙ ap (λ v. Some (changed_if v change x)) l)

    live : (x : Object) (b : Bool) → same p o ≡ b → x.live ≡ true → slice_get objects o ≡ Some x
        → (if b then Some (change x) else slice_get objects p) ≡ object_then change b (slice_get objects p)
    live x false q l e = refl
    live x true q l e =
        sym (ap (option_map (alive change)) (at-same objects p o (Some x) q e) ∙ ap (λ v. Some (changed_if v change x)) l)

    some : (x : Object) (v : Bool) → x.live ≡ v → slice_get objects o ≡ Some x
        → slice_get (if v then slice_set objects o (change x) else objects) p ≡ object_then change (same p o) (slice_get objects p)
    some x true l e = get-set objects o p (change x) x e ∙ live x (same p o) refl l e
    some x false l e = dead x (same p o) refl l e

    go : (x : Option Object) → slice_get objects o ≡ x → slice_get (object_changed_by x o change objects) p ≡ object_then change (same p o) (slice_get objects p)
    go None e = none (same p o) refl e
    go (Some x) e = some x x.live refl e

pub length-with : (change : Object → Object) (objects : List Object) (o : ℕ) → length (objects_with change objects o) ≡ length objects
length-with change objects o = go (slice_get objects o)
  where
    some : (v : Bool) (x : Object) → length (if v then slice_set objects o (change x) else objects) ≡ length objects
    some true x = length-set objects o (change x)
    some false x = refl

    go : (x : Option Object) → length (object_changed_by x o change objects) ≡ length objects
    go None = refl
    go (Some x) = some x.live x

-- ---- what is told of an object

module _ {A : Type 0} (get : Option Object → A) (change : Object → Object) where
  -- what the change leaves
  pub kept : ((x : Object) → get (Some (change x)) ≡ get (Some x)) → (b : Bool) (x : Option Object) → get (object_then change b x) ≡ get x
  kept h false x = refl
  kept h true None = refl
  kept h true (Some x) = go x.live
    where
      go : (v : Bool) → get (Some (changed_if v change x)) ≡ get (Some x)
      go true = h x
      go false = refl

  -- what it makes none
  pub lost : (none : A) → get None ≡ none → ((x : Object) → x.live ≡ false → get (Some x) ≡ none) → ((x : Object) → get (Some (change x)) ≡ none)
      → (b : Bool) (x : Option Object) → get (object_then change b x) ≡ (if b then none else get x)
  lost none h dead gone false x = refl
  lost none h dead gone true None = h
  lost none h dead gone true (Some x) = go x.live refl
    where
      go : (v : Bool) → x.live ≡ v → get (Some (changed_if v change x)) ≡ none
      go true e = gone x
      go false e = dead x e

pub dead-word : (w : ℕ) (x : Object) → x.live ≡ false → word_by (Some x) w ≡ None
dead-word w x e = ap (λ v. if v then slice_get x.words w else None) e

pub dead-class : (x : Object) → x.live ≡ false → class_by (Some x) ≡ None
dead-class x e = ap (λ v. if v then Some x.class else None) e

pub dead-holder : (k : ℕ) (x : Object) → x.live ≡ false → holder_by (Some x) k ≡ None
dead-holder k x e = ap (λ v. if v then holder_in (entry x.holders k) else None) e

-- ---- a word stored

abbrev then_bits : ℕ → Option ℕ → Option ℕ
then_bits bits w = option_map (λ _. bits) w

none-then : (b : Bool) (bits : ℕ) (w : Option ℕ) → w ≡ None → w ≡ (if b then then_bits bits w else w)
none-then true bits w z = z ∙ sym (ap (then_bits bits) z)
none-then false bits w z = refl

set-words : (ws : List ℕ) (m n v : ℕ) → slice_get (slice_set ws m v) n ≡ (if same n m then then_bits v (slice_get ws n) else slice_get ws n)
unfolding same
set-words [] m n v = none-then (same n m) v None refl
set-words (a ∷ ws) zero zero v = refl
set-words (a ∷ ws) zero (suc n) v = refl
set-words (a ∷ ws) (suc m) zero v = refl
set-words (a ∷ ws) (suc m) (suc n) v = set-words ws m n v

pub word-stored : (w bits v : ℕ) (b : Bool) (x : Option Object)
    → word_by (object_then (with_word w bits) b x) v ≡ (if b then (if same v w then then_bits bits (word_by x v) else word_by x v) else word_by x v)
word-stored w bits v false x = refl
word-stored w bits v true None = none-then (same v w) bits None refl
word-stored w bits v true (Some x) = go x.live refl
  where
    go : (l : Bool) → x.live ≡ l → word_by (Some (changed_if l (with_word w bits) x)) v ≡ (if same v w then then_bits bits (word_by (Some x) v) else word_by (Some x) v)
    go true e = rw e (set-words x.words w v bits)
    go false e = none-then (same v w) bits (word_by (Some x) v) (dead-word v x e)

-- ---- a mutex taken or freed

abbrev is_some_object : Option ClassId → Bool
is_some_object None = false
is_some_object (Some class) = true

holder-if : (b : Bool) (h old : Option (Option ℕ)) → holder_in (if b then h else old) ≡ (if b then holder_in h else holder_in old)
holder-if true h old = refl
holder-if false h old = refl

pub holder-set : (m k : ℕ) (h : Option ℕ) (b : Bool) (x : Option Object) (class : ClassId) → (b ≡ true → class_by x ≡ Some class)
    → holder_by (object_then (with_holder m h) b x) k ≡ (if b && same k m then h else holder_by x k)
holder-set m k h false x class e = refl
holder-set m k h true None class e = cc (e refl)
holder-set m k h true (Some x) class e = go x.live refl
  where
    go : (l : Bool) → x.live ≡ l → holder_by (Some (changed_if l (with_holder m h) x)) k ≡ (if same k m then h else holder_by (Some x) k)
    go true q = rw q (ap holder_in (entry-with x.holders m h k) ∙ holder-if (same k m) (Some h) (entry x.holders k))
    go false q = cc (e refl, dead-class x q)

-- where there is no such live object, nothing changes
pub holder-unset : (m k : ℕ) (h : Option ℕ) (b : Bool) (x : Option Object) → (b ≡ true → class_by x ≡ None) → holder_by (object_then (with_holder m h) b x) k ≡ holder_by x k
holder-unset m k h false x e = refl
holder-unset m k h true None e = refl
holder-unset m k h true (Some x) e = go x.live refl
  where
    go : (l : Bool) → x.live ≡ l → holder_by (Some (changed_if l (with_holder m h) x)) k ≡ holder_by (Some x) k
    go false q = refl
    go true q = cc (e refl, ap (λ v. if v then Some x.class else None) q)

-- ---- one more object

pub new-at : {A : Type 0} (get : Option Object → A) (objects : List Object) (class : ClassId) (words p : ℕ)
    → get (slice_get (objects ++ new_object class words ∷ []) p) ≡ (if same p (length objects) then get (Some (new_object class words)) else get (slice_get objects p))
new-at get objects class words p = ap get (get-snoc objects p (new_object class words)) ∙ spread (same p (length objects))
  where
    spread : (b : Bool) → get (if b then Some (new_object class words) else slice_get objects p) ≡ (if b then get (Some (new_object class words)) else get (slice_get objects p))
    spread true = refl
    spread false = refl

pub new-holder : (objects : List Object) (class : ClassId) (words p k : ℕ) → holder_by (slice_get (objects ++ new_object class words ∷ []) p) k ≡ holder_by (slice_get objects p) k
new-holder objects class words p k = new-at (λ x. holder_by x k) objects class words p ∙ go (same p (length objects)) refl
  where
    go : (b : Bool) → same p (length objects) ≡ b → (if b then None else holder_by (slice_get objects p) k) ≡ holder_by (slice_get objects p) k
    go false q = refl
    go true q = sym (ap (λ x. holder_by x k) (at-same objects p (length objects) None q (get-end objects)))
