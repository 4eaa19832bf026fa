-- Bits of numbers, and sums modulo 2.
use Rattle.std.proofs.Common.{◌≡◌, ◌≢◌, ℕ, zero, suc, ◌+◌, ◌*◌, ◌/◌, ◌%◌, ◌^◌, ◌<◌, ◌≤◌, min, max, Bool, true, false, not, ◌&&◌, ◌||◌, nat_eq, List, [], ◌∷◌, ◌++◌, bit_and, bit_or, bit_xor, refl, sym, ap, ap₂, ◌∙◌, arith}
use Rattle.std.specs.Int.{bit_at}
use Rattle.std.specs.Int.Bits.{xor_assoc, xor_self, xor_zero_r}
use Rattle.std.proofs.lemmas.Nat.{xor_comm}
use Rattle.std.proofs.lemmas.Nat.Bits.{bit_at-lt, bit_at-suc, bit_at-zero, bit_at_lowest, bit_at_and, bit_at_or, bit_at_xor, bit_at_above, bit_at-pow_same, bit_at-pow_other, same_from_bits, same_from_bits_below}
use Rattle.hamming_gen.specs.HammingWords.{is_set, is_odd, digit}

-- the sum of two bits modulo 2
abbrev pub differ : Bool → Bool → Bool
differ true b = not b
differ false b = b

-- ---- sums modulo 2

pub differ-self : (a : Bool) → differ a a ≡ false
differ-self true = refl
differ-self false = refl

pub differ-false : (a : Bool) → differ a false ≡ a
differ-false true = refl
differ-false false = refl

pub not-not : (a : Bool) → not (not a) ≡ a
not-not true = refl
not-not false = refl

pub differ-not : (a b : Bool) → differ (not a) b ≡ not (differ a b)
differ-not true b = sym (not-not b)
differ-not false b = refl

pub not-differ : (a b : Bool) → differ a (not b) ≡ not (differ a b)
not-differ true b = refl
not-differ false b = refl

pub differ-same : (a b : Bool) → differ a b ≡ false → a ≡ b
differ-same true true e = refl
differ-same true false e = e
differ-same false true e = sym e
differ-same false false e = refl

pub is_odd-append : (a b : List Bool) → is_odd (a ++ b) ≡ differ (is_odd a) (is_odd b)
is_odd-append [] b = refl
is_odd-append (true ∷ a) b = ap not (is_odd-append a b) ∙ sym (differ-not (is_odd a) (is_odd b))
is_odd-append (false ∷ a) b = is_odd-append a b

pub is_odd-one : (a : Bool) → is_odd (a ∷ []) ≡ a
is_odd-one true = refl
is_odd-one false = refl

-- ---- a bit as a number and as a truth value

digit-eq : (x : ℕ) → x < 2 → digit (nat_eq x 1) ≡ x
digit-eq zero h = refl
digit-eq (suc zero) h = refl
digit-eq (suc (suc x)) h = absurd (omega arith)

eq-digit : (b : Bool) → nat_eq (digit b) 1 ≡ b
eq-digit true = refl
eq-digit false = refl

pub digit-lt : (b : Bool) → digit b < 2
digit-lt true = omega arith
digit-lt false = omega arith

pub digit-is_set : (n i : ℕ) → digit (is_set n i) ≡ bit_at n i
digit-is_set n i = digit-eq (bit_at n i) (bit_at-lt n i)

pub bit-of : (n i : ℕ) (b : Bool) → bit_at n i ≡ digit b → is_set n i ≡ b
bit-of n i b e = ap (λ x. nat_eq x 1) e ∙ eq-digit b

pub same-bit : (a b i : ℕ) → is_set a i ≡ is_set b i → bit_at a i ≡ bit_at b i
same-bit a b i e = sym (digit-is_set a i) ∙ ap digit e ∙ digit-is_set b i

xor-digits : (a b : Bool) → (digit a + digit b) % 2 ≡ digit (differ a b)
xor-digits true true = refl
xor-digits true false = refl
xor-digits false true = refl
xor-digits false false = refl

and-digits : (a b : Bool) → min (digit a) (digit b) ≡ digit (a && b)
and-digits true true = refl
and-digits true false = refl
and-digits false true = refl
and-digits false false = refl

or-digits : (a b : Bool) → max (digit a) (digit b) ≡ digit (a || b)
or-digits true true = refl
or-digits true false = refl
or-digits false true = refl
or-digits false false = refl

pub is_set-xor : (a b i : ℕ) → is_set (bit_xor a b) i ≡ differ (is_set a i) (is_set b i)
is_set-xor a b i =
    bit-of (bit_xor a b) i (differ (is_set a i) (is_set b i)) (bit_at_xor a b i
    ∙ ap₂ (λ x y. (x + y) % 2) (sym (digit-is_set a i)) (sym (digit-is_set b i)) ∙ xor-digits (is_set a i) (is_set b i))

pub is_set-and : (a b i : ℕ) → is_set (bit_and a b) i ≡ (is_set a i && is_set b i)
is_set-and a b i =
    bit-of (bit_and a b) i (is_set a i && is_set b i) (bit_at_and a b i
    ∙ ap₂ min (sym (digit-is_set a i)) (sym (digit-is_set b i)) ∙ and-digits (is_set a i) (is_set b i))

pub is_set-or : (a b i : ℕ) → is_set (bit_or a b) i ≡ (is_set a i || is_set b i)
is_set-or a b i =
    bit-of (bit_or a b) i (is_set a i || is_set b i) (bit_at_or a b i
    ∙ ap₂ max (sym (digit-is_set a i)) (sym (digit-is_set b i)) ∙ or-digits (is_set a i) (is_set b i))

pub is_set-zero : (i : ℕ) → is_set 0 i ≡ false
is_set-zero i = bit-of 0 i false (bit_at-zero i)

pub is_set-power : (k : ℕ) → is_set (2 ^ k) k ≡ true
is_set-power k = bit-of (2 ^ k) k true (bit_at-pow_same k)

pub is_set-other_power : (k i : ℕ) → i ≢ k → is_set (2 ^ k) i ≡ false
is_set-other_power k i h = bit-of (2 ^ k) i false (bit_at-pow_other k i h)

pub is_set-above : (n k i : ℕ) → n < 2 ^ k → k ≤ i → is_set n i ≡ false
is_set-above n k i h l = bit-of n i false (bit_at_above n k i h l)

-- ---- a number with a lowest bit more

lowest-mod : (d w : ℕ) → d < 2 → (d + 2 * w) % 2 ≡ d
lowest-mod d w h = omega arith

lowest-half : (d w : ℕ) → d < 2 → (d + 2 * w) / 2 ≡ w
lowest-half d w h = omega arith

pub is_set-lowest : (b : Bool) (w : ℕ) → is_set (digit b + 2 * w) 0 ≡ b
is_set-lowest b w = bit-of (digit b + 2 * w) 0 b (bit_at_lowest (digit b + 2 * w) ∙ lowest-mod (digit b) w (digit-lt b))

pub is_set-upper : (b : Bool) (w i : ℕ) → is_set (digit b + 2 * w) (suc i) ≡ is_set w i
is_set-upper b w i =
    ap (λ x. nat_eq x 1) (bit_at-suc (digit b + 2 * w) i ∙ ap (λ n. bit_at n i) (lowest-half (digit b) w (digit-lt b)))

-- ---- numbers with the same bits

pub same-numbers : (a b : ℕ) → ((i : ℕ) → is_set a i ≡ is_set b i) → a ≡ b
same-numbers a b h = same_from_bits a b (λ i. same-bit a b i (h i))

pub same-numbers-below : (w a b : ℕ) → a < 2 ^ w → b < 2 ^ w → ((i : ℕ) → i < w → is_set a i ≡ is_set b i) → a ≡ b
same-numbers-below w a b p q h = same_from_bits_below w a b p q (λ i l. same-bit a b i (h i l))

-- ---- sums without carry

pub xor-swap : (a b c : ℕ) → bit_xor a (bit_xor b c) ≡ bit_xor b (bit_xor a c)
xor-swap a b c = sym (xor_assoc a b c) ∙ ap (λ x. bit_xor x c) (xor_comm a b) ∙ xor_assoc b a c

pub xor-cancel : (a b : ℕ) → bit_xor a (bit_xor a b) ≡ b
xor-cancel a b = sym (xor_assoc a a b) ∙ ap (λ x. bit_xor x b) (xor_self a)

pub xor-same : (a b : ℕ) → bit_xor a b ≡ 0 → a ≡ b
xor-same a b e = sym (ap (bit_xor a) e ∙ xor_zero_r a) ∙ xor-cancel a b
