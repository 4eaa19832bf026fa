-- Texts and their numbers.
use Rattle.std.proofs.Common.{◌≡◌, ℕ, zero, suc, ◌+◌, Bool, true, false, not, cond, ◌||◌, List, [], ◌∷◌, ◌++◌, map, length, slice_get, Some, None, position, nat_lt, if◌then◌else◌, refl, sym, ap, ◌∙◌, arith, true≢false}
use Rattle.std.specs.List.{list_any, position_or_len, AllByRecursion, IsDistinct as KeysDiffer}
use Rattle.std.specs.Str.{bytes_eq}
use Rattle.std.proofs.lemmas.List.{map-append}
use Rattle.std.proofs.lemmas.Slice.Eq.{bytes_eq-Decides}
use Rattle.std.proofs.lemmas.Map.Made.{AllPairs-from_IsDistinct}
use Rattle.agxx_base.specs.Names.{IsDistinct, number_of, is_known, interned}

-- the place that a search finds
place-found : {X : Type 0} (test : X → Bool) (xs : List X) (place : ℕ) → Some place ≡ position test xs → place ≡ position_or_len test xs
place-found test xs place is = by (nat_lt (position_or_len test xs) (length xs)) is
  where
    by : (within : Bool) → Some place ≡ cond within (Some (position_or_len test xs)) None → place ≡ position_or_len test xs
    by true e = cc
    by false e = absurd (cc e)

-- lists of keys that are seen as texts
module _ {K : Type 0} (seen : K → List ℕ) where
  all-seen : (text : List ℕ) (keys : List K) → AllByRecursion (λ key. bytes_eq text (seen key) ≡ false) keys → AllByRecursion (λ other. bytes_eq text other ≡ false) (map seen keys)
  all-seen text [] all = all
  all-seen text (key ∷ keys) all = (all.0, all-seen text keys all.1)

  differ-seen : (keys : List K) → KeysDiffer (λ one other. bytes_eq (seen one) (seen other)) keys → KeysDiffer bytes_eq (map seen keys)
  unfolding KeysDiffer
  differ-seen [] differ = differ
  differ-seen (key ∷ keys) differ = (all-seen (seen key) keys differ.0, differ-seen keys differ.1)

  -- keys that differ are distinct texts
  pub distinct-seen : (keys : List K) → KeysDiffer (λ one other. bytes_eq (seen one) (seen other)) keys → IsDistinct (map seen keys)
  distinct-seen keys differ = AllPairs-from_IsDistinct bytes_eq-Decides (map seen keys) (differ-seen keys differ)

  pub known-seen : (text : List ℕ) (keys : List K) → list_any (λ key. bytes_eq text (seen key)) keys ≡ is_known (map seen keys) text
  known-seen text [] = refl
  known-seen text (key ∷ keys) = ap (λ rest. bytes_eq text (seen key) || rest) (known-seen text keys)

  -- a new key goes to the end
  pub seen-new : (keys new : List K) (key : K) (names : List (List ℕ)) (text : List ℕ) → map seen keys ≡ names → seen key ≡ text → is_known names text ≡ false → new ≡ (if list_any (λ other. bytes_eq (seen key) (seen other)) keys then keys else keys ++ key ∷ []) → map seen new ≡ names ++ text ∷ []
  seen-new keys new key names text all one absent is =
      let unknown : list_any (λ other. bytes_eq (seen key) (seen other)) keys ≡ false = known-seen (seen key) keys ∙ ap (λ n. is_known n (seen key)) all ∙ ap (is_known names) one ∙ absent in
      ap (map seen) (is ∙ ap (λ b. if b then keys else keys ++ key ∷ []) unknown) ∙ map-append seen keys (key ∷ []) ∙ ap (λ n. n ++ seen key ∷ []) all ∙ ap (λ t. names ++ t ∷ []) one

  number-seen : (text : List ℕ) (keys : List K) → position_or_len (λ key. bytes_eq text (seen key)) keys ≡ number_of (map seen keys) text
  number-seen text [] = refl
  number-seen text (key ∷ keys) = ap (λ rest. cond (not (bytes_eq text (seen key))) (1 + rest) 0) (number-seen text keys)

  pub number-found : (text : List ℕ) (keys : List K) (place : ℕ) → Some place ≡ position (λ key. bytes_eq text (seen key)) keys → place ≡ number_of (map seen keys) text
  number-found text keys place is = place-found (λ key. bytes_eq text (seen key)) keys place is ∙ number-seen text keys

one-more : (n : ℕ) → 1 + n ≡ suc n
one-more n = omega arith

same-text : (one other : List ℕ) → bytes_eq one other ≡ true → one ≡ other
same-text one other e = (bytes_eq-Decides one other).0 e

-- a known text stands at its number
pub at-number : (names : List (List ℕ)) (text : List ℕ) → is_known names text ≡ true → slice_get names (number_of names text) ≡ Some text
at-number [] text known = absurd (true≢false (sym known))
at-number (name ∷ names) text known = by (bytes_eq text name) refl (at-number names text)
  where
    by : (same : Bool) → bytes_eq text name ≡ same → (is_known names text ≡ true → slice_get names (number_of names text) ≡ Some text) → slice_get (name ∷ names) (number_of (name ∷ names) text) ≡ Some text
    by true e rest = rw e (ap Some (sym (same-text text name e)))
    by false e rest = rw (e, one-more (number_of names text)) (rest (sym (ap (λ b. b || is_known names text) e) ∙ known))

-- a new text gets the length as its number
pub number_new : (names : List (List ℕ)) (text : List ℕ) → is_known names text ≡ false → number_of names text ≡ length names
number_new [] text new = refl
number_new (name ∷ names) text new = by (bytes_eq text name) refl (number_new names text)
  where
    by : (same : Bool) → bytes_eq text name ≡ same → (is_known names text ≡ false → number_of names text ≡ length names) → number_of (name ∷ names) text ≡ length (name ∷ names)
    by true e rest = absurd (true≢false (sym (ap (λ b. b || is_known names text) e) ∙ new))
    by false e rest = rw (e, one-more (number_of names text)) (ap suc (rest (sym (ap (λ b. b || is_known names text) e) ∙ new)))

-- a text at the end stands at the length
pub at-end : (names : List (List ℕ)) (text : List ℕ) → slice_get (names ++ text ∷ []) (length names) ≡ Some text
at-end [] text = refl
at-end (name ∷ names) text = at-end names text

keeps-append : (names more : List (List ℕ)) (old : List ℕ) (id : ℕ) → slice_get names id ≡ Some old → slice_get (names ++ more) id ≡ Some old
keeps-append [] more old id at = absurd (cc at)
keeps-append (name ∷ names) more old zero at = at
keeps-append (name ∷ names) more old (suc id) at = keeps-append names more old id at

-- a known text leaves the list as it is, and a new one goes to its end
pub interned-known : (names : List (List ℕ)) (text : List ℕ) → is_known names text ≡ true → interned names text ≡ names
interned-known names text known = ap (λ b. if b then names else names ++ text ∷ []) known

pub interned-new : (names : List (List ℕ)) (text : List ℕ) → is_known names text ≡ false → interned names text ≡ names ++ text ∷ []
interned-new names text new = ap (λ b. if b then names else names ++ text ∷ []) new

-- the text stands at its number
pub text-interned : (names : List (List ℕ)) (text : List ℕ) → slice_get (interned names text) (number_of names text) ≡ Some text
text-interned names text = by (is_known names text) refl
  where
    by : (known : Bool) → is_known names text ≡ known → slice_get (interned names text) (number_of names text) ≡ Some text
    by true e = rw (interned-known names text e) (at-number names text e)
    by false e = rw (interned-new names text e, number_new names text e) (at-end names text)

-- texts that have numbers keep them
pub interned-keeps : (names : List (List ℕ)) (text old : List ℕ) (id : ℕ) → slice_get names id ≡ Some old → slice_get (interned names text) id ≡ Some old
interned-keeps names text old id at = by (is_known names text) refl
  where
    by : (known : Bool) → is_known names text ≡ known → slice_get (interned names text) id ≡ Some old
    by true e = rw (interned-known names text e) at
    by false e = rw (interned-new names text e) (keeps-append names (text ∷ []) old id at)
