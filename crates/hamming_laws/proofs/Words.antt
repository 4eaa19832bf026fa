-- The laws of all words, from those of one bit place.
use Rattle.std.proofs.Common.{◌≡◌, ◌⊎◌, inl, inr, ℕ, zero, suc, ◌+◌, ◌^◌, ◌<◌, ◌≤◌, Bool, true, false, ◌||◌, is_none, List, [], ◌∷◌, ◌++◌, length, take, replicate, Option, Some, None, unwrap_or, refl, sym, ap, ap₂, ◌∙◌, arith, subst, length-append, length-take-le, pow_mono}
use Rattle.std.proofs.lemmas.List.{length-replicate}
use Rattle.std.proofs.lemmas.Option.{none-some}
use Rattle.std.proofs.lemmas.Bool.{cases_eq, false≢true}
use Rattle.agxx_base.specs.declared.kind.NumKind.{NumKind}
use Rattle.agxx_base.specs.declared.kind.NumKind.TheVariants as num
use Rattle.cxx_arith.specs.Kinds.{width}
use Rattle.codec_laws.specs.Values.{Fit}
use Rattle.hamming_gen.specs.HammingWords.{Slot, slots, all_kinds, extra_words, is_set, place_bits, mended_place, added_place, encoded, repaired, repaired_place, beyond, beyond_from, words_of}
use Rattle.hamming_laws.specs.Places.{IsRight}
use Rattle.hamming_laws.specs.Masks.{AllUnder}
use Rattle.hamming_laws.proofs.Sums.{right-stays, mended-size, mended-is-right}
use Rattle.hamming_laws.proofs.PositionsOfWords.{length-slots}
use Rattle.hamming_laws.proofs.Places.{added-is-right, right-is-added, length-added_place}
use Rattle.hamming_laws.proofs.Rebuilt.{HaveSize, bits-of, words_of-under, length-words_of, same-words, words-by-bits, bits-append, length-place_bits}

-- ---- words that fit

pub narrow : (k : NumKind) → width k ≤ 64
narrow num.Bool = omega arith
narrow num.I8 = omega arith
narrow num.U8 = omega arith
narrow num.I16 = omega arith
narrow num.U16 = omega arith
narrow num.I32 = omega arith
narrow num.U32 = omega arith
narrow num.I64 = omega arith
narrow num.U64 = omega arith

pub fit-under : (kinds : List NumKind) (words : List ℕ) → Fit kinds words → AllUnder (2 ^ 64) words
fit-under [] [] h = tt
fit-under [] (w ∷ words) h = absurd h
fit-under (k ∷ kinds) [] h = absurd h
fit-under (k ∷ kinds) (w ∷ words) h =
    let up : 2 ^ width k ≤ 2 ^ 64 = pow_mono (narrow k) in
    (lt-le w (2 ^ width k) (2 ^ 64) h.0 up, fit-under kinds words h.1)
  where
    lt-le : (a b c : ℕ) → a < b → b ≤ c → a < c
    lt-le a b c h g = omega (arith, h, g)

pub fit-length : (kinds : List NumKind) (words : List ℕ) → Fit kinds words → length words ≡ length kinds
fit-length [] [] h = refl
fit-length [] (w ∷ words) h = absurd h
fit-length (k ∷ kinds) [] h = absurd h
fit-length (k ∷ kinds) (w ∷ words) h = ap (λ n. suc n) (fit-length kinds words h.1)

pub under-fit : (n : ℕ) (words : List ℕ) → length words ≡ n → AllUnder (2 ^ 64) words → Fit (replicate n num.U64) words
under-fit zero [] e h = tt
under-fit zero (w ∷ words) e h = absurd (omega arith)
under-fit (suc n) [] e h = absurd (omega arith)
under-fit (suc n) (w ∷ words) e h = (h.0, under-fit n words (omega arith) h.1)

pub fit-append : (a b : List NumKind) (v w : List ℕ) → Fit a v → Fit b w → Fit (a ++ b) (v ++ w)
fit-append [] b [] w h g = g
fit-append [] b (x ∷ v) w h g = absurd h
fit-append (k ∷ a) b [] w h g = absurd h
fit-append (k ∷ a) b (x ∷ v) w h g = (h.0, fit-append a b v w h.1 g)

pub under-append : (n : ℕ) (a b : List ℕ) → AllUnder n a → AllUnder n b → AllUnder n (a ++ b)
under-append n [] b h g = g
under-append n (w ∷ a) b h g = (h.0, under-append n a b h.1 g)

under-take : (n k : ℕ) (a : List ℕ) → AllUnder n a → AllUnder n (take k a)
under-take n zero a h = tt
under-take n (suc k) [] h = tt
under-take n (suc k) (w ∷ a) h = (h.0, under-take n k a h.1)

pub length-kinds : (kinds : List NumKind) → length (all_kinds kinds) ≡ length kinds + extra_words (length kinds)
length-kinds kinds =
    length-append kinds (replicate (extra_words (length kinds)) num.U64)
    ∙ ap (λ n. length kinds + n) (length-replicate (extra_words (length kinds)) num.U64)

-- ---- what is encoded

pub added-size : (kinds : List NumKind) (v : List ℕ)
    → HaveSize (extra_words (length kinds)) (λ place. added_place kinds (place_bits place v))
added-size kinds v place = length-added_place kinds (place_bits place v)

added : List NumKind → List ℕ → List ℕ
added kinds v = words_of (extra_words (length kinds)) (λ place. added_place kinds (place_bits place v))

pub length-encoded : (kinds : List NumKind) (v : List ℕ) → length v ≡ length kinds
    → length (encoded kinds v) ≡ length (slots kinds)
unfolding added
length-encoded kinds v e =
    length-append v (added kinds v)
    ∙ ap₂ (λ a b. a + b) e (length-words_of (extra_words (length kinds)) (λ place. added_place kinds (place_bits place v))
    (added-size kinds v))
    ∙ sym (length-slots kinds)

pub encoded-under : (kinds : List NumKind) (v : List ℕ) → AllUnder (2 ^ 64) v → AllUnder (2 ^ 64) (encoded kinds v)
unfolding added
encoded-under kinds v h =
    under-append (2 ^ 64) v (added kinds v) h
    (words_of-under (extra_words (length kinds)) (λ place. added_place kinds (place_bits place v)))

pub encoded-fits : (kinds : List NumKind) (v : List ℕ) → Fit kinds v → Fit (all_kinds kinds) (encoded kinds v)
unfolding added
encoded-fits kinds v h =
    fit-append kinds (replicate (extra_words (length kinds)) num.U64) v (added kinds v) h
    (under-fit (extra_words (length kinds)) (added kinds v) (length-words_of (extra_words (length kinds))
    (λ place. added_place kinds (place_bits place v)) (added-size kinds v))
    (words_of-under (extra_words (length kinds)) (λ place. added_place kinds (place_bits place v))))

pub encoded-bits : (kinds : List NumKind) (v : List ℕ) (place : ℕ) → place < 64
    → place_bits place (encoded kinds v) ≡ place_bits place v ++ added_place kinds (place_bits place v)
unfolding added
encoded-bits kinds v place l =
    bits-append place v (added kinds v)
    ∙ ap (λ b. place_bits place v ++ b) (bits-of (extra_words (length kinds))
    (λ p. added_place kinds (place_bits p v)) place (added-size kinds v) l)

-- at each place all is right
abbrev pub AllRight : List NumKind → List ℕ → Type 0
AllRight kinds words = (place : ℕ) → place < 64 → IsRight (slots kinds) (place_bits place words)

pub encoded-right : (kinds : List NumKind) (v : List ℕ) → length v ≡ length kinds → AllRight kinds (encoded kinds v)
encoded-right kinds v e place l =
    subst (IsRight (slots kinds)) (sym (encoded-bits kinds v place l))
    (added-is-right kinds (place_bits place v) (length-place_bits place v ∙ e))

bits-take : (place k : ℕ) (words : List ℕ) → take k (place_bits place words) ≡ place_bits place (take k words)
bits-take place zero words = refl
bits-take place (suc k) [] = refl
bits-take place (suc k) (w ∷ words) = ap (λ l. is_set w place ∷ l) (bits-take place k words)

-- words with nothing wrong are what is encoded of their members
pub right-is-encoded : (kinds : List NumKind) (words : List ℕ) → length words ≡ length (slots kinds)
    → AllUnder (2 ^ 64) words → AllRight kinds words → words ≡ encoded kinds (take (length kinds) words)
right-is-encoded kinds words e u h =
    same-words 64 words (encoded kinds v) (e ∙ sym (length-encoded kinds v size)) u
    (encoded-under kinds v (under-take (2 ^ 64) (length kinds) words u)) at
  where
    v : List ℕ
    v = take (length kinds) words

    size : length (take (length kinds) words) ≡ length kinds
    size = length-take-le (length kinds) words (omega (arith, e, length-slots kinds))

    at : (place : ℕ) → place < 64 → place_bits place words ≡ place_bits place (encoded kinds (take (length kinds) words))
    at place l =
        right-is-added kinds (place_bits place words) (length-place_bits place words ∙ e) (h place l)
        ∙ ap (λ b. b ++ added_place kinds b) (bits-take place (length kinds) words)
        ∙ sym (encoded-bits kinds (take (length kinds) words) place l)

-- ---- what is beyond repair

pub record IsBeyondAt (part : List Slot) (words : List ℕ) (from more : ℕ) : Type 0 where
  pub place : ℕ
  pub low : from ≤ place
  pub high : place < from + more
  pub none : mended_place part place (place_bits place words) ≡ None

beyond-some : (part : List Slot) (words : List ℕ) (from more : ℕ) → beyond_from part words from more ≡ true
    → IsBeyondAt part words from more
unfolding beyond_from
beyond-some part words from zero e = absurd (false≢true e)
beyond-some part words from (suc more) e =
    by (mended_place part from (place_bits from words)) refl e (beyond-some part words (suc from) more)
  where
    by : (o : Option (List Bool)) → mended_place part from (place_bits from words) ≡ o
        → (is_none o || beyond_from part words (suc from) more) ≡ true
        → (beyond_from part words (suc from) more ≡ true → IsBeyondAt part words (suc from) more)
        → IsBeyondAt part words from (suc more)
    by None f e rest = record { place = from; low = omega arith; high = omega arith; none = f }
    by (Some after) f e rest =
        let h = rest e in
        record { place = h.place; low = omega (arith, h.low); high = omega (arith, h.high); none = h.none }

some-beyond : (part : List Slot) (words : List ℕ) (from more place : ℕ) → from ≤ place → place < from + more
    → mended_place part place (place_bits place words) ≡ None → beyond_from part words from more ≡ true
unfolding beyond_from
some-beyond part words from zero place l h e = absurd (omega arith)
some-beyond part words from (suc more) place l h e =
    by (cases_eq from place) (λ o. some-beyond part words (suc from) more place (omega (arith, o)) (omega arith) e)
  where
    or-true : (b : Bool) → (b || true) ≡ true
    or-true true = refl
    or-true false = refl

    by : (from ≡ place) ⊎ (from ≡ place → ⊥)
        → ((from ≡ place → ⊥) → beyond_from part words (suc from) more ≡ true)
        → (is_none (mended_place part from (place_bits from words)) || beyond_from part words (suc from) more) ≡ true
    by (inl same) rest =
        ap (λ o. is_none o || beyond_from part words (suc from) more)
        (ap (λ p. mended_place part p (place_bits p words)) same ∙ e)
    by (inr other) rest =
        ap (λ b. is_none (mended_place part from (place_bits from words)) || b) (rest other)
        ∙ or-true (is_none (mended_place part from (place_bits from words)))

pub is-beyond : (kinds : List NumKind) (words : List ℕ) (place : ℕ) → place < 64
    → mended_place (slots kinds) place (place_bits place words) ≡ None → beyond kinds words ≡ true
is-beyond kinds words place l e = some-beyond (slots kinds) words 0 64 place (omega arith) (omega arith) e

pub beyond-place : (kinds : List NumKind) (words : List ℕ) → beyond kinds words ≡ true
    → (place : ℕ) × (place < 64) × (mended_place (slots kinds) place (place_bits place words) ≡ None)
beyond-place kinds words e =
    let s = beyond-some (slots kinds) words 0 64 e in (s.place, omega (arith, s.high), s.none)

pub not-beyond : (kinds : List NumKind) (words : List ℕ)
    → ((place : ℕ) → place < 64 → mended_place (slots kinds) place (place_bits place words) ≡ None → ⊥)
    → beyond kinds words ≡ false
not-beyond kinds words h = by (beyond kinds words) refl
  where
    by : (b : Bool) → beyond kinds words ≡ b → b ≡ false
    by false e = refl
    by true e =
        let s = beyond-some (slots kinds) words 0 64 e in absurd (h s.place (omega (arith, s.high)) s.none)

-- words of which each place is repaired
abbrev pub AllMended : List NumKind → List ℕ → Type 0
AllMended kinds words = (place : ℕ) → place < 64
    → (after : List Bool) × (mended_place (slots kinds) place (place_bits place words) ≡ Some after)

pub all-mended : (kinds : List NumKind) (words : List ℕ) → beyond kinds words ≡ false → AllMended kinds words
all-mended kinds words e place l = by (mended_place (slots kinds) place (place_bits place words)) refl
  where
    by : (o : Option (List Bool)) → mended_place (slots kinds) place (place_bits place words) ≡ o
        → (after : List Bool) × (o ≡ Some after)
    by None f = absurd (false≢true (sym e ∙ is-beyond kinds words place l f))
    by (Some after) f = (after, refl)

-- ---- what repair leaves

chosen-size : (part : List Slot) (place : ℕ) (bits : List Bool)
    → length (unwrap_or (mended_place part place bits) bits) ≡ length bits
chosen-size part place bits = by (mended_place part place bits) refl
  where
    by : (o : Option (List Bool)) → mended_place part place bits ≡ o → length (unwrap_or o bits) ≡ length bits
    by None e = refl
    by (Some after) e = mended-size part place bits after e

pub repaired-size : (kinds : List NumKind) (words : List ℕ) → HaveSize (length words) (repaired_place kinds words)
repaired-size kinds words place =
    chosen-size (slots kinds) place (place_bits place words) ∙ length-place_bits place words

pub length-repaired : (kinds : List NumKind) (words : List ℕ) → length (repaired kinds words) ≡ length words
length-repaired kinds words = length-words_of (length words) (repaired_place kinds words) (repaired-size kinds words)

pub repaired-under : (kinds : List NumKind) (words : List ℕ) → AllUnder (2 ^ 64) (repaired kinds words)
repaired-under kinds words = words_of-under (length words) (repaired_place kinds words)

pub repaired-bits : (kinds : List NumKind) (words : List ℕ) (place : ℕ) → place < 64
    → place_bits place (repaired kinds words) ≡ repaired_place kinds words place
repaired-bits kinds words place l =
    bits-of (length words) (repaired_place kinds words) place (repaired-size kinds words) l

-- words to which each place is repaired
pub repaired-is : (kinds : List NumKind) (words good : List ℕ) → length good ≡ length words → AllUnder (2 ^ 64) good
    → ((place : ℕ) → place < 64
    → mended_place (slots kinds) place (place_bits place words) ≡ Some (place_bits place good))
    → (beyond kinds words ≡ false) × (repaired kinds words ≡ good)
repaired-is kinds words good e u h = (
  not-beyond kinds words (λ place l none. none-some (place_bits place good) (sym none ∙ h place l)),
  words-by-bits (length words) (repaired_place kinds words) good (repaired-size kinds words) e u
      (λ place l. ap (λ o. unwrap_or o (place_bits place words)) (h place l)),
)

pub repaired-right : (kinds : List NumKind) (words : List ℕ) → beyond kinds words ≡ false
    → AllRight kinds (repaired kinds words)
repaired-right kinds words e place l = by (all-mended kinds words e place l)
  where
    by : (after : List Bool) × (mended_place (slots kinds) place (place_bits place words) ≡ Some after)
        → IsRight (slots kinds) (place_bits place (repaired kinds words))
    by (after, f) =
        subst (IsRight (slots kinds))
        (sym (repaired-bits kinds words place l ∙ ap (λ o. unwrap_or o (place_bits place words)) f))
        (mended-is-right (slots kinds) place (place_bits place words) after f)

pub right-stays-so : (kinds : List NumKind) (words : List ℕ) → AllUnder (2 ^ 64) words → AllRight kinds words
    → (beyond kinds words ≡ false) × (repaired kinds words ≡ words)
right-stays-so kinds words u h =
    repaired-is kinds words words refl u (λ place l. right-stays (slots kinds) place (place_bits place words) (h place l))

pub repaired-stays : (kinds : List NumKind) (words : List ℕ) → beyond kinds words ≡ false
    → (beyond kinds (repaired kinds words) ≡ false) × (repaired kinds (repaired kinds words) ≡ repaired kinds words)
repaired-stays kinds words e =
    right-stays-so kinds (repaired kinds words) (repaired-under kinds words) (repaired-right kinds words e)

pub repaired-is-encoded : (kinds : List NumKind) (words : List ℕ) → length words ≡ length (slots kinds)
    → beyond kinds words ≡ false
    → repaired kinds words ≡ encoded kinds (take (length kinds) (repaired kinds words))
repaired-is-encoded kinds words e f =
    right-is-encoded kinds (repaired kinds words) (length-repaired kinds words ∙ e) (repaired-under kinds words)
    (repaired-right kinds words f)
