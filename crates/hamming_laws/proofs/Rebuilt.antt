-- Words and their bits at each place.
use Rattle.std.proofs.Common.{◌≡◌, ◌≢◌, ℕ, zero, suc, ◌+◌, ◌^◌, ◌<◌, Bool, true, false, not, List, [], ◌∷◌, ◌++◌, length, replicate, Some, slice_get, slice_set, bit_xor, refl, sym, ap, ap₂, ◌∙◌, arith, pow-suc}
use Rattle.std.proofs.lemmas.List.{length-map, length-replicate}
use Rattle.std.proofs.lemmas.Option.{none-some, same_Some}
use Rattle.hamming_gen.specs.HammingWords.{is_set, place_bits, with_lowest, words_from, words_of}
use Rattle.hamming_laws.specs.Places.{inverted}
use Rattle.hamming_laws.specs.Masks.{AllUnder}
use Rattle.hamming_laws.proofs.Bits.{differ, differ-false, digit-lt, is_set-lowest, is_set-upper, is_set-xor, is_set-power, is_set-other_power, same-numbers-below}

-- ---- words made of bits

-- each of so many places gives so many bits
abbrev pub HaveSize : ℕ → (ℕ → List Bool) → Type 0
HaveSize n bits = (place : ℕ) → length (bits place) ≡ n

length-lowest : (bits : List Bool) (words : List ℕ) → length bits ≡ length words
    → length (with_lowest bits words) ≡ length words
length-lowest [] [] e = refl
length-lowest [] (w ∷ words) e = absurd (omega arith)
length-lowest (b ∷ bits) [] e = absurd (omega arith)
length-lowest (b ∷ bits) (w ∷ words) e = ap (λ n. suc n) (length-lowest bits words (omega arith))

pub length-words_from : (n : ℕ) (bits : ℕ → List Bool) (place more : ℕ) → HaveSize n bits
    → length (words_from n bits place more) ≡ n
unfolding words_from
length-words_from n bits place zero h = length-replicate n 0
length-words_from n bits place (suc more) h =
    let rest = length-words_from n bits (suc place) more h in
    length-lowest (bits place) (words_from n bits (suc place) more) (h place ∙ sym rest) ∙ rest

lowest-bits : (bits : List Bool) (words : List ℕ) → length bits ≡ length words
    → place_bits 0 (with_lowest bits words) ≡ bits
lowest-bits [] [] e = refl
lowest-bits [] (w ∷ words) e = absurd (omega arith)
lowest-bits (b ∷ bits) [] e = absurd (omega arith)
lowest-bits (b ∷ bits) (w ∷ words) e = ap₂ (λ x l. x ∷ l) (is_set-lowest b w) (lowest-bits bits words (omega arith))

upper-bits : (bits : List Bool) (words : List ℕ) (i : ℕ) → length bits ≡ length words
    → place_bits (suc i) (with_lowest bits words) ≡ place_bits i words
upper-bits [] [] i e = refl
upper-bits [] (w ∷ words) i e = absurd (omega arith)
upper-bits (b ∷ bits) [] i e = absurd (omega arith)
upper-bits (b ∷ bits) (w ∷ words) i e = ap₂ (λ x l. x ∷ l) (is_set-upper b w i) (upper-bits bits words i (omega arith))

bits-from : (n : ℕ) (bits : ℕ → List Bool) (place more i : ℕ) → HaveSize n bits → i < more
    → place_bits i (words_from n bits place more) ≡ bits (place + i)
unfolding words_from
bits-from n bits place zero i h l = absurd (omega arith)
bits-from n bits place (suc more) zero h l =
    lowest-bits (bits place) (words_from n bits (suc place) more) (h place ∙ sym (length-words_from n bits (suc place) more h))
    ∙ ap bits (let e : place ≡ place + 0 = omega arith in e)
bits-from n bits place (suc more) (suc i) h l =
    upper-bits (bits place) (words_from n bits (suc place) more) i
    (h place ∙ sym (length-words_from n bits (suc place) more h))
    ∙ bits-from n bits (suc place) more i h (omega arith)
    ∙ ap bits (let e : suc place + i ≡ place + suc i = omega arith in e)

under-zero : (n : ℕ) → AllUnder 1 (replicate n 0)
under-zero zero = tt
under-zero (suc n) = (omega arith, under-zero n)

under-lowest : (m : ℕ) (bits : List Bool) (words : List ℕ) → AllUnder (2 ^ m) words
    → AllUnder (2 ^ suc m) (with_lowest bits words)
under-lowest m [] words h = tt
under-lowest m (b ∷ bits) [] h = tt
under-lowest m (b ∷ bits) (w ∷ words) h =
    (omega (arith, digit-lt b, h.0, pow-suc 2 m), under-lowest m bits words h.1)

words_from-under : (n : ℕ) (bits : ℕ → List Bool) (place more : ℕ) → AllUnder (2 ^ more) (words_from n bits place more)
unfolding words_from
words_from-under n bits place zero = under-zero n
words_from-under n bits place (suc more) =
    under-lowest more (bits place) (words_from n bits (suc place) more) (words_from-under n bits (suc place) more)

pub length-words_of : (n : ℕ) (bits : ℕ → List Bool) → HaveSize n bits → length (words_of n bits) ≡ n
length-words_of n bits h = length-words_from n bits 0 64 h

pub bits-of : (n : ℕ) (bits : ℕ → List Bool) (place : ℕ) → HaveSize n bits → place < 64
    → place_bits place (words_of n bits) ≡ bits place
bits-of n bits place h l =
    bits-from n bits 0 64 place h l ∙ ap bits (let e : 0 + place ≡ place = omega arith in e)

pub words_of-under : (n : ℕ) (bits : ℕ → List Bool) → AllUnder (2 ^ 64) (words_of n bits)
words_of-under n bits = words_from-under n bits 0 64

-- ---- words with the same bits

first-same : {A : Type 0} (a b : A) (l m : List A) → ◌≡◌ {A = List A} (a ∷ l) (b ∷ m) → a ≡ b
first-same a b l m e = same_Some a b (ap (λ k. slice_get k 0) e)

rest-same : {A : Type 0} (a b : A) (l m : List A) → ◌≡◌ {A = List A} (a ∷ l) (b ∷ m) → l ≡ m
rest-same a b l m e = ap tail e
  where
    tail : {A : Type 0} → List A → List A
    tail [] = []
    tail (x ∷ k) = k

pub same-words : (n : ℕ) (a b : List ℕ) → length a ≡ length b → AllUnder (2 ^ n) a → AllUnder (2 ^ n) b
    → ((place : ℕ) → place < n → place_bits place a ≡ place_bits place b) → a ≡ b
same-words n [] [] e p q h = refl
same-words n [] (w ∷ b) e p q h = absurd (omega arith)
same-words n (v ∷ a) [] e p q h = absurd (omega arith)
same-words n (v ∷ a) (w ∷ b) e p q h =
    ap₂ (λ x l. x ∷ l)
    (same-numbers-below n v w p.0 q.0
    (λ i l. first-same (is_set v i) (is_set w i) (place_bits i a) (place_bits i b) (h i l)))
    (same-words n a b (omega arith) p.1 q.1
    (λ i l. rest-same (is_set v i) (is_set w i) (place_bits i a) (place_bits i b) (h i l)))

-- words that have these bits are the words made of them
pub words-by-bits : (n : ℕ) (bits : ℕ → List Bool) (words : List ℕ) → HaveSize n bits → length words ≡ n
    → AllUnder (2 ^ 64) words → ((place : ℕ) → place < 64 → bits place ≡ place_bits place words)
    → words_of n bits ≡ words
words-by-bits n bits words h e u same =
    same-words 64 (words_of n bits) words (length-words_of n bits h ∙ sym e) (words_of-under n bits) u
    (λ place l. bits-of n bits place h l ∙ same place l)

pub bits-append : (place : ℕ) (a b : List ℕ) → place_bits place (a ++ b) ≡ place_bits place a ++ place_bits place b
bits-append place [] b = refl
bits-append place (w ∷ a) b = ap (λ l. is_set w place ∷ l) (bits-append place a b)

pub length-place_bits : (place : ℕ) (words : List ℕ) → length (place_bits place words) ≡ length words
length-place_bits place words = length-map words (λ w. is_set w place)

-- ---- an inverted bit

bit-inverted : (value bit : ℕ) → is_set (bit_xor value (2 ^ bit)) bit ≡ not (is_set value bit)
bit-inverted value bit =
    is_set-xor value (2 ^ bit) bit ∙ ap (differ (is_set value bit)) (is_set-power bit) ∙ by (is_set value bit)
  where
    by : (b : Bool) → differ b true ≡ not b
    by true = refl
    by false = refl

other-bit : (value bit place : ℕ) → place ≢ bit → is_set (bit_xor value (2 ^ bit)) place ≡ is_set value place
other-bit value bit place h =
    is_set-xor value (2 ^ bit) place ∙ ap (differ (is_set value place)) (is_set-other_power bit place h)
    ∙ differ-false (is_set value place)

pub flipped-bits : (words : List ℕ) (i value bit : ℕ) → slice_get words i ≡ Some value
    → place_bits bit (slice_set words i (bit_xor value (2 ^ bit))) ≡ inverted i (place_bits bit words)
flipped-bits [] i value bit g = absurd (none-some value g)
flipped-bits (w ∷ words) zero value bit g =
    ap (λ b. b ∷ place_bits bit words)
    (bit-inverted value bit ∙ ap (λ x. not (is_set x bit)) (sym (same_Some w value g)))
flipped-bits (w ∷ words) (suc i) value bit g = ap (λ l. is_set w bit ∷ l) (flipped-bits words i value bit g)

pub other-bits : (words : List ℕ) (i value bit place : ℕ) → slice_get words i ≡ Some value → place ≢ bit
    → place_bits place (slice_set words i (bit_xor value (2 ^ bit))) ≡ place_bits place words
other-bits [] i value bit place g h = absurd (none-some value g)
other-bits (w ∷ words) zero value bit place g h =
    ap (λ b. b ∷ place_bits place words)
    (other-bit value bit place h ∙ ap (λ x. is_set x place) (sym (same_Some w value g)))
other-bits (w ∷ words) (suc i) value bit place g h = ap (λ l. is_set w place ∷ l) (other-bits words i value bit place g h)
