-- Where there is no word, a store changes nothing.
use Rattle.std.proofs.Common.{◌≡◌, ◌∙◌, ℕ, zero, suc, Bool, true, false, is_some, if◌then◌else◌, List, [], ◌∷◌, slice_get, slice_set, Option, Some, None, refl, sym, ap}
use Rattle.step_machine.specs.World.{Object, word_by, object_changed_by, with_word}
use Rattle.step_world.specs.Objects.{has_word, altered}

set_absent : {X : Type 0} (xs : List X) (i : ℕ) (y : X) → is_some (slice_get xs i) ≡ false → slice_set xs i y ≡ xs
set_absent [] i y absent = refl
set_absent (x ∷ xs) zero y absent = cc
set_absent (x ∷ xs) (suc i) y absent = ap (λ rest. x ∷ rest) (set_absent xs i y absent)

set_found : {X : Type 0} (xs : List X) (i : ℕ) (x : X) → slice_get xs i ≡ Some x → slice_set xs i x ≡ xs
set_found [] i x found = refl
set_found (x ∷ xs) zero y found = cc
set_found (x ∷ xs) (suc i) y found = ap (λ rest. x ∷ rest) (set_found xs i y found)

module _ (objects : List Object) (o w bits : ℕ) where
  unstored_in : (x : Object) → slice_get objects o ≡ Some x → (live : Bool) →
      is_some (if live then slice_get x.words w else None) ≡ false →
      (if live then slice_set objects o (with_word w bits x) else objects) ≡ objects
  unstored_in x found false absent = refl
  unstored_in x found true absent =
      ap (λ words. slice_set objects o (record x { words = words })) (set_absent x.words w bits absent) ∙ set_found objects o x found

  unstored_by : (found : Option Object) → slice_get objects o ≡ found → is_some (word_by found w) ≡ false →
      object_changed_by found o (with_word w bits) objects ≡ objects
  unstored_by None found absent = refl
  unstored_by (Some x) found absent = unstored_in x found x.live absent

pub unstored : (objects : List Object) (o w bits : ℕ) → has_word objects o w ≡ false →
    objects ≡ altered objects o (with_word w bits)
unstored objects o w bits absent = sym (unstored_by objects o w bits (slice_get objects o) refl absent)
