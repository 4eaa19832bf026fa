-- Inverted bits of words, words of zeros, and words that fit.
use Rattle.std.proofs.Common.{◌≡◌, ◌≢◌, ◌↔◌, ◌⊎◌, inl, inr, ℕ, zero, suc, ◌+◌, ◌*◌, ◌/◌, ◌%◌, ◌^◌, ◌<◌, ◌≤◌, Bool, true, false, nat_eq, List, [], ◌∷◌, ◌++◌, length, map, take, replicate, Option, Some, None, option_map, unwrap_or, slice_get, bit_xor, refl, sym, ap, ◌∙◌, arith, subst, length-set}
use Rattle.std.proofs.lemmas.Nat.{shr-shr, shr_split, mod_below, pow_pos}
use Rattle.std.proofs.lemmas.Option.{none-some, same_Some, slice_get-map, slice_get_within}
use Rattle.std.proofs.lemmas.Bool.{cases_lt, cases_eq, ltb-true}
use Rattle.agxx_base.specs.declared.kind.NumKind.{NumKind}
use Rattle.agxx_base.specs.declared.kind.NumKind.TheVariants as num
use Rattle.cxx_arith.specs.Kinds.{width}
use Rattle.codec.specs.Copies.{IsFlipped, IsSingle}
use Rattle.codec_laws.specs.Values.{Fit, KeepsValues}
use Rattle.hamming_gen.specs.HammingWords.{Slot, slots, all_kinds, extra_words, is_set, is_odd, sums, place_bits, mended_place, added_place, encoded, repaired, beyond, words_of}
use Rattle.hamming_laws.specs.Places.{IsRight, IsLost, IsWithin, inverted}
use Rattle.hamming_laws.specs.Masks.{AllUnder}
use Rattle.hamming_laws.specs.Words.{WordsMend, words_alone}
use Rattle.hamming_laws.proofs.Bits.{is_set-zero, is_set-above, same-numbers}
use Rattle.hamming_laws.proofs.Sums.{IsInverted, mended-cases, right-stays, single-is-undone, double-is-noticed}
use Rattle.hamming_laws.proofs.PositionsOfWords.{all-apart, length-slots, widths-of}
use Rattle.hamming_laws.proofs.Lost.{none-is-lost, lost-is-none}
use Rattle.hamming_laws.proofs.Rebuilt.{length-place_bits, flipped-bits, other-bits}
use Rattle.hamming_laws.proofs.Words.{narrow, fit-under, fit-length, length-kinds, length-encoded, encoded-under, encoded-right, encoded-fits, right-is-encoded, is-beyond, beyond-place, repaired-is, right-stays-so, repaired-bits, length-repaired, repaired-under, repaired-stays, repaired-is-encoded}

-- ---- one inverted bit

slot-of : (part : List Slot) (i w : ℕ) → slice_get (map (λ (s : Slot). s.width) part) i ≡ Some w
    → (s : Slot) × (slice_get part i ≡ Some s) × (s.width ≡ w)
slot-of [] i w g = absurd (none-some w g)
slot-of (s ∷ part) zero w g = (s, refl, same_Some s.width w g)
slot-of (s ∷ part) (suc i) w g = slot-of part i w g

pub flip-within : (kinds : List NumKind) (before after : List ℕ) (f : IsFlipped (map width (all_kinds kinds)) before after)
    → IsWithin (slots kinds) f.word f.bit
flip-within kinds before after f =
    by (slot-of (slots kinds) f.word f.width (ap (λ l. slice_get l f.word) (widths-of kinds) ∙ f.width_is))
  where
    by : (s : Slot) × (slice_get (slots kinds) f.word ≡ Some s) × (s.width ≡ f.width) → IsWithin (slots kinds) f.word f.bit
    by (s, g, w) = record { slot = s; slot_is = g; within = subst (λ n. f.bit < n) (sym w) f.within }

pub flip-bits : (widths before after : List ℕ) (f : IsFlipped widths before after)
    → place_bits f.bit after ≡ inverted f.word (place_bits f.bit before)
flip-bits widths before after f =
    ap (place_bits f.bit) f.after_is ∙ flipped-bits before f.word f.value f.bit f.value_is

pub flip-others : (widths before after : List ℕ) (f : IsFlipped widths before after) (place : ℕ) → place ≢ f.bit
    → place_bits place after ≡ place_bits place before
flip-others widths before after f place h =
    ap (place_bits place) f.after_is ∙ other-bits before f.word f.value f.bit place f.value_is h

flip-length : (widths before after : List ℕ) → IsFlipped widths before after → length after ≡ length before
flip-length widths before after f = ap length f.after_is ∙ length-set before f.word (bit_xor f.value (2 ^ f.bit))

flip-repaired : (kinds : List NumKind) (v words : List ℕ) → length v ≡ length kinds → AllUnder (2 ^ 64) v
    → IsFlipped (map width (all_kinds kinds)) (encoded kinds v) words
    → (beyond kinds words ≡ false) × (repaired kinds words ≡ encoded kinds v)
flip-repaired kinds v words e u f =
    repaired-is kinds words (encoded kinds v) (sym (flip-length (map width (all_kinds kinds)) (encoded kinds v) words f))
    (encoded-under kinds v u) (λ place l. by place l (cases_eq place f.bit))
  where
    size : (place : ℕ) → length (place_bits place (encoded kinds v)) ≡ length (slots kinds)
    size place = length-place_bits place (encoded kinds v) ∙ length-encoded kinds v e

    by : (place : ℕ) → place < 64 → (place ≡ f.bit) ⊎ (place ≡ f.bit → ⊥)
        → mended_place (slots kinds) place (place_bits place words) ≡ Some (place_bits place (encoded kinds v))
    by place l (inl same) =
        subst (λ p. mended_place (slots kinds) p (place_bits p words) ≡ Some (place_bits p (encoded kinds v))) (sym same)
        (ap (mended_place (slots kinds) f.bit) (flip-bits (map width (all_kinds kinds)) (encoded kinds v) words f)
        ∙ single-is-undone (slots kinds) f.bit (place_bits f.bit (encoded kinds v)) (size f.bit) (all-apart kinds)
        (encoded-right kinds v e f.bit (subst (λ p. p < 64) same l)) f.word
        (flip-within kinds (encoded kinds v) words f))
    by place l (inr other) =
        ap (mended_place (slots kinds) place) (flip-others (map width (all_kinds kinds)) (encoded kinds v) words f place other)
        ∙ right-stays (slots kinds) place (place_bits place (encoded kinds v)) (encoded-right kinds v e place l)

pub single-repaired : (kinds : List NumKind) (v words : List ℕ) → Fit kinds v
    → IsSingle (map width (all_kinds kinds)) (encoded kinds v) words
    → (beyond kinds words ≡ false) × (repaired kinds words ≡ encoded kinds v)
single-repaired kinds v words h (inl same) =
    let e = fit-length kinds v h in
    subst (λ w. (beyond kinds w ≡ false) × (repaired kinds w ≡ encoded kinds v)) (sym same)
    (right-stays-so kinds (encoded kinds v) (encoded-under kinds v (fit-under kinds v h)) (encoded-right kinds v e))
single-repaired kinds v words h (inr f) =
    flip-repaired kinds v words (fit-length kinds v h) (fit-under kinds v h) f

-- ---- two at one place

width-bound : (kinds : List NumKind) (i w : ℕ) → slice_get (map width kinds) i ≡ Some w → w ≤ 64
width-bound [] i w g = absurd (none-some w g)
width-bound (k ∷ kinds) zero w g = subst (λ n. n ≤ 64) (same_Some (width k) w g) (narrow k)
width-bound (k ∷ kinds) (suc i) w g = width-bound kinds i w g

pub double-is-beyond : (kinds : List NumKind) (v once twice : List ℕ) → Fit kinds v
    → (first : IsFlipped (map width (all_kinds kinds)) (encoded kinds v) once)
    → (second : IsFlipped (map width (all_kinds kinds)) once twice) → first.bit ≡ second.bit
    → first.word ≢ second.word → beyond kinds twice ≡ true
double-is-beyond kinds v once twice h f g same apart =
    is-beyond kinds twice f.bit place
    (ap (mended_place (slots kinds) f.bit) (bits ∙ ap (inverted g.word) (flip-bits widths (encoded kinds v) once f))
    ∙ double-is-noticed (slots kinds) f.bit (place_bits f.bit (encoded kinds v)) size (all-apart kinds)
    (encoded-right kinds v e f.bit place) f.word g.word first second apart)
  where
    widths : List ℕ
    widths = map width (all_kinds kinds)

    e : length v ≡ length kinds
    e = fit-length kinds v h

    place : f.bit < 64
    place = omega (arith, f.within, width-bound (all_kinds kinds) f.word f.width f.width_is)

    size : length (place_bits f.bit (encoded kinds v)) ≡ length (slots kinds)
    size = length-place_bits f.bit (encoded kinds v) ∙ length-encoded kinds v (fit-length kinds v h)

    bits : place_bits f.bit twice ≡ inverted g.word (place_bits f.bit once)
    bits = ap (λ p. place_bits p twice) same ∙ flip-bits (map width (all_kinds kinds)) once twice g
        ∙ ap (λ p. inverted g.word (place_bits p once)) (sym same)

    first : f.word < length (place_bits f.bit (encoded kinds v))
    first =
        omega (arith, slice_get_within (encoded kinds v) f.word f.value f.value_is, length-place_bits f.bit (encoded kinds v))

    second : g.word < length (place_bits f.bit (encoded kinds v))
    second =
        let once-length = flip-length (map width (all_kinds kinds)) (encoded kinds v) once f in
        omega (arith, slice_get_within once g.word g.value g.value_is, once-length, length-place_bits f.bit (encoded kinds v))

-- ---- zeros

abbrev zeros : ℕ → List ℕ
zeros n = replicate n 0

zeros-under : (n : ℕ) → AllUnder (2 ^ 64) (zeros n)
zeros-under zero = tt
zeros-under (suc n) = (omega arith, zeros-under n)

zeros-right : (part : List Slot) (n place : ℕ) → IsRight part (place_bits place (zeros n))
zeros-right part n place = record { sums_are_zero = sum part n; even = odd n }
  where
    none : is_set 0 place ≡ false
    none = is_set-zero place

    odd : (n : ℕ) → is_odd (place_bits place (zeros n)) ≡ false
    odd zero = refl
    odd (suc n) = ap (λ b. is_odd (b ∷ place_bits place (zeros n))) (is_set-zero place) ∙ odd n

    sum : (part : List Slot) (n : ℕ) → sums part (place_bits place (zeros n)) ≡ 0
    sum [] n = refl
    sum (s ∷ part) zero = refl
    sum (s ∷ part) (suc n) =
        ap (λ b. sums (s ∷ part) (b ∷ place_bits place (zeros n))) (is_set-zero place) ∙ sum part n

length-zeros : (n : ℕ) → length (zeros n) ≡ n
length-zeros zero = refl
length-zeros (suc n) = ap (λ m. suc m) (length-zeros n)

take-zeros : (k n : ℕ) → k ≤ n → take k (zeros n) ≡ zeros k
take-zeros zero n h = refl
take-zeros (suc k) zero h = absurd (omega arith)
take-zeros (suc k) (suc n) h = ap (λ l. 0 ∷ l) (take-zeros k n (omega arith))

pub zeros-encoded : (kinds : List NumKind) → encoded kinds (zeros (length kinds))
    ≡ zeros (length (all_kinds kinds))
zeros-encoded kinds =
    let n = length (all_kinds kinds) in
    sym (right-is-encoded kinds (zeros n) (length-zeros n ∙ length-kinds kinds ∙ sym (length-slots kinds))
    (zeros-under n) (λ place l. zeros-right (slots kinds) n place)
    ∙ ap (encoded kinds) (take-zeros (length kinds) n (omega (arith, length-kinds kinds))))

-- ---- the words that repair leaves fit

no-bits : (n : ℕ) → ((i : ℕ) → is_set n i ≡ false) → n ≡ 0
no-bits n h = same-numbers n 0 (λ i. h i ∙ sym (is_set-zero i))

-- a number with no bit from w on
below-bits : (n w : ℕ) → ((i : ℕ) → w ≤ i → is_set n i ≡ false) → n < 2 ^ w
below-bits n w h =
    let none : n / 2 ^ w ≡ 0 = no-bits (n / 2 ^ w) (λ i. ap (λ x. nat_eq (x % 2) 1) (shr-shr n w i)
    ∙ h (w + i) (omega arith)) in
    omega (arith, shr_split n w, mod_below n (2 ^ w) (pow_pos w), ap (λ x. x * 2 ^ w) none)

-- words fit that have no bit at or above the widths
pub fit-by-bits : (kinds : List NumKind) (words : List ℕ) → length words ≡ length kinds
    → ((i place : ℕ) (k : NumKind) (w : ℕ) → slice_get kinds i ≡ Some k → slice_get words i ≡ Some w → width k ≤ place
    → is_set w place ≡ false)
    → Fit kinds words
fit-by-bits [] [] e h = tt
fit-by-bits [] (w ∷ words) e h = absurd (omega arith)
fit-by-bits (k ∷ kinds) [] e h = absurd (omega arith)
fit-by-bits (k ∷ kinds) (w ∷ words) e h = (
  below-bits w (width k) (λ place l. h 0 place k w refl refl l),
  fit-by-bits kinds words (omega arith) (λ i place x y g f l. h (suc i) place x y g f l),
)

-- a word of its kind
record HasWord (words : List ℕ) (i : ℕ) (k : NumKind) : Type 0 where
  word : ℕ
  word_is : slice_get words i ≡ Some word
  fits : word < 2 ^ width k

word-at : (kinds : List NumKind) (words : List ℕ) (i : ℕ) (k : NumKind) → Fit kinds words
    → slice_get kinds i ≡ Some k → HasWord words i k
word-at [] words i k h g = absurd (none-some k g)
word-at (x ∷ kinds) [] i k h g = absurd h
word-at (x ∷ kinds) (y ∷ words) zero k h g =
    record { word = y; word_is = refl; fits = subst (λ n. y < 2 ^ width n) (same_Some x k g) h.0 }
word-at (x ∷ kinds) (y ∷ words) (suc i) k h g =
    let w = word-at kinds words i k h.1 g in record { word = w.word; word_is = w.word_is; fits = w.fits }

under-at : (n : ℕ) (words : List ℕ) (i w : ℕ) → AllUnder n words → slice_get words i ≡ Some w → w < n
under-at n [] i w h g = absurd (none-some w g)
under-at n (x ∷ words) zero w h g = subst (λ y. y < n) (same_Some x w g) h.0
under-at n (x ∷ words) (suc i) w h g = under-at n words i w h.1 g

bit-of-word : (words : List ℕ) (i w place : ℕ) → slice_get words i ≡ Some w
    → slice_get (place_bits place words) i ≡ Some (is_set w place)
bit-of-word words i w place g =
    slice_get-map (λ x. is_set x place) words i ∙ ap (option_map (λ x. is_set x place)) g

get-inverted : (n i : ℕ) (bits : List Bool) → n ≢ i → slice_get (inverted n bits) i ≡ slice_get bits i
get-inverted n i [] h = refl
get-inverted zero zero (b ∷ bits) h = absurd (h refl)
get-inverted zero (suc i) (b ∷ bits) h = refl
get-inverted (suc n) zero (b ∷ bits) h = refl
get-inverted (suc n) (suc i) (b ∷ bits) h = get-inverted n i bits (λ e. h (ap (λ m. suc m) e))

-- a bit that isn't below the width of its word stays
high-stays : (part : List Slot) (place i : ℕ) (s : Slot) (bits : List Bool) → slice_get part i ≡ Some s
    → s.width ≤ place
    → slice_get (unwrap_or (mended_place part place bits) bits) i ≡ slice_get bits i
high-stays part place i s bits g l = by (mended_place part place bits) refl
  where
    other : (after : List Bool) → (h : IsInverted part (sums part bits) place bits after) → h.number ≢ i
    other after h e =
        let same : h.slot ≡ s = same_Some h.slot s (sym h.slot_is ∙ ap (slice_get part) e ∙ g) in
        omega (arith, ltb-true place h.slot.width h.within, ap (λ (x : Slot). x.width) same, l)

    cases : (after : List Bool) → (after ≡ bits) ⊎ IsInverted part (sums part bits) place bits after
        → slice_get after i ≡ slice_get bits i
    cases after (inl same) = ap (λ l. slice_get l i) same
    cases after (inr h) = ap (λ l. slice_get l i) h.after_is ∙ get-inverted h.number i bits (other after h)

    by : (o : Option (List Bool)) → mended_place part place bits ≡ o
        → slice_get (unwrap_or o bits) i ≡ slice_get bits i
    by None e = refl
    by (Some after) e = cases after (mended-cases part place bits after e)

-- a bit of a repaired word that isn't below the width of its kind is one of a word that fits
high-bit : (kinds : List NumKind) (words : List ℕ) (i place : ℕ) (k : NumKind) (w : ℕ) → Fit (all_kinds kinds) words
    → slice_get (all_kinds kinds) i ≡ Some k → slice_get (repaired kinds words) i ≡ Some w → width k ≤ place → place < 64
    → is_set w place ≡ false
high-bit kinds words i place k w h g f l p = by (slot-of (slots kinds) i (width k) widths)
  where
    widths : slice_get (map (λ (s : Slot). s.width) (slots kinds)) i ≡ Some (width k)
    widths =
        ap (λ m. slice_get m i) (widths-of kinds) ∙ slice_get-map width (all_kinds kinds) i ∙ ap (option_map width) g

    by : (s : Slot) × (slice_get (slots kinds) i ≡ Some s) × (s.width ≡ width k) → is_set w place ≡ false
    by (s, at, wide) =
        let x = word-at (all_kinds kinds) words i k h g in
        let high : s.width ≤ place = omega (arith, wide, l) in
        let kept : slice_get (place_bits place (repaired kinds words)) i ≡ slice_get (place_bits place words) i =
        ap (λ b. slice_get b i) (repaired-bits kinds words place p)
        ∙ high-stays (slots kinds) place i s (place_bits place words) at high in
        let same : is_set w place ≡ is_set x.word place =
        same_Some (is_set w place) (is_set x.word place) (sym (bit-of-word (repaired kinds words) i w place f)
        ∙ kept ∙ bit-of-word words i x.word place x.word_is) in
        same ∙ is_set-above x.word (width k) place x.fits l

pub repaired-fits : (kinds : List NumKind) (words : List ℕ) → Fit (all_kinds kinds) words
    → Fit (all_kinds kinds) (repaired kinds words)
repaired-fits kinds words h =
    fit-by-bits (all_kinds kinds) (repaired kinds words)
    (length-repaired kinds words ∙ fit-length (all_kinds kinds) words h) (λ i place k w g f l. by i place k w g f l
    (cases_lt place 64))
  where
    by : (i place : ℕ) (k : NumKind) (w : ℕ) → slice_get (all_kinds kinds) i ≡ Some k
        → slice_get (repaired kinds words) i ≡ Some w → width k ≤ place → (place < 64) ⊎ (64 ≤ place)
        → is_set w place ≡ false
    by i place k w g f l (inl p) = high-bit kinds words i place k w h g f l p
    by i place k w g f l (inr p) =
        is_set-above w 64 place (under-at (2 ^ 64) (repaired kinds words) i w (repaired-under kinds words) f) p

-- ---- the laws

take-first : {A : Type 0} (a b : List A) (k : ℕ) → length a ≡ k → take k (a ++ b) ≡ a
take-first [] b zero h = refl
take-first [] b (suc k) h = absurd (omega arith)
take-first (x ∷ a) b zero h = absurd (omega arith)
take-first (x ∷ a) b (suc k) h = ap (λ l. x ∷ l) (take-first a b k (omega arith))

pub words-fit : (kinds : List NumKind) (words : List ℕ) → Fit (all_kinds kinds) words
    → length words ≡ length (slots kinds)
words-fit kinds words h = fit-length (all_kinds kinds) words h ∙ length-kinds kinds ∙ sym (length-slots kinds)

pub lost-somewhere : (kinds : List NumKind) (words : List ℕ) → Fit (all_kinds kinds) words
    → (beyond kinds words ≡ true) ↔ ((place : ℕ) × (place < 64) × IsLost (slots kinds) place (place_bits place words))
lost-somewhere kinds words h = (
  λ e. there (beyond-place kinds words e),
  λ s. is-beyond kinds words s.0 s.1
      (lost-is-none kinds s.0 (place_bits s.0 words) s.1 (size s.0) s.2),
)
  where
    size : (place : ℕ) → length (place_bits place words) ≡ length (slots kinds)
    size place = length-place_bits place words ∙ words-fit kinds words h

    there : (place : ℕ) × (place < 64) × (mended_place (slots kinds) place (place_bits place words) ≡ None)
        → (place : ℕ) × (place < 64) × IsLost (slots kinds) place (place_bits place words)
    there (place, l, e) = (place, l, none-is-lost kinds place (place_bits place words) l (size place) e)

pub keeps-values : KeepsValues words_alone
keeps-values = record {
  kinds_length = length-kinds;
  kinds_first = λ kinds. take-first kinds (replicate (extra_words (length kinds)) num.U64) (length kinds) refl;
  words_fit = encoded-fits;
  members_first = λ kinds v h. take-first v (words_of (extra_words (length kinds))
      (λ place. added_place kinds (place_bits place v))) (length kinds) (fit-length kinds v h);
  zeros = zeros-encoded;
  none = λ kinds words. inl refl;
  single = λ kinds words after h. inr h;
  repairs = single-repaired;
}

pub words-mend : WordsMend
words-mend = record {
  keeps = keeps-values;
  beyond_somewhere = λ kinds words. (beyond-place kinds words, λ h. is-beyond kinds words h.0 h.1 h.2);
  lost_somewhere = lost-somewhere;
  repaired_fits = repaired-fits;
  repaired_bits = λ kinds words place h l. repaired-bits kinds words place l;
  repaired_is_encoded = λ kinds words h e. repaired-is-encoded kinds words (words-fit kinds words h) e;
  repaired_stays = λ kinds words h e. repaired-stays kinds words e;
  double_is_beyond = double-is-beyond;
}
