-- The majority of three numbers, bit by bit and number by number.
use Rattle.std.proofs.Common.{◌≡◌, ℕ, zero, suc, min, max, List, [], ◌∷◌, slice_set, bit_and, bit_or, refl, ap₂, ◌∙◌, arith}
use Rattle.std.specs.Int.{bit_at}
use Rattle.std.proofs.lemmas.Nat.Bits.{bit_at_and, bit_at_or, same_from_bits}
use Rattle.codec.specs.Copies.{majority, majorities}

-- ---- bits

abbrev pub of_three : ℕ → ℕ → ℕ → ℕ
of_three x y z = max (max (min x y) (min x z)) (min y z)

pub majority-bit : (a b c i : ℕ) → bit_at (majority a b c) i ≡ of_three (bit_at a i) (bit_at b i) (bit_at c i)
majority-bit a b c i =
    bit_at_or (bit_or (bit_and a b) (bit_and a c)) (bit_and b c) i
    ∙ ap₂ max (bit_at_or (bit_and a b) (bit_and a c) i ∙ ap₂ max (bit_at_and a b i) (bit_at_and a c i))
    (bit_at_and b c i)

first-two-of : (x y z : ℕ) → x ≡ y → of_three x y z ≡ x
first-two-of x y z e = omega arith

outer-two-of : (x y z : ℕ) → x ≡ z → of_three x y z ≡ x
outer-two-of x y z e = omega arith

last-two-of : (x y z : ℕ) → y ≡ z → of_three x y z ≡ y
last-two-of x y z e = omega arith

pub first-two : (a b c i : ℕ) → bit_at a i ≡ bit_at b i → bit_at (majority a b c) i ≡ bit_at a i
first-two a b c i e = majority-bit a b c i ∙ first-two-of (bit_at a i) (bit_at b i) (bit_at c i) e

pub outer-two : (a b c i : ℕ) → bit_at a i ≡ bit_at c i → bit_at (majority a b c) i ≡ bit_at a i
outer-two a b c i e = majority-bit a b c i ∙ outer-two-of (bit_at a i) (bit_at b i) (bit_at c i) e

pub last-two : (a b c i : ℕ) → bit_at b i ≡ bit_at c i → bit_at (majority a b c) i ≡ bit_at b i
last-two a b c i e = majority-bit a b c i ∙ last-two-of (bit_at a i) (bit_at b i) (bit_at c i) e

-- ---- numbers

pub same-first-two : (a c : ℕ) → majority a a c ≡ a
same-first-two a c = same_from_bits (majority a a c) a (λ i. first-two a a c i refl)

pub same-outer-two : (a b : ℕ) → majority a b a ≡ a
same-outer-two a b = same_from_bits (majority a b a) a (λ i. outer-two a b a i refl)

pub same-last-two : (a b : ℕ) → majority b a a ≡ a
same-last-two a b = same_from_bits (majority b a a) a (λ i. last-two b a a i refl)

-- ---- lists of which one has another number somewhere

pub none-set : (v : List ℕ) → majorities v v v ≡ v
none-set [] = refl
none-set (a ∷ v) = ap₂ (λ x l. x ∷ l) (same-first-two a a) (none-set v)

pub first-set : (v : List ℕ) (i x : ℕ) → majorities (slice_set v i x) v v ≡ v
first-set [] i x = refl
first-set (a ∷ v) zero x = ap₂ (λ y l. y ∷ l) (same-last-two a x) (none-set v)
first-set (a ∷ v) (suc i) x = ap₂ (λ y l. y ∷ l) (same-first-two a a) (first-set v i x)

pub second-set : (v : List ℕ) (i x : ℕ) → majorities v (slice_set v i x) v ≡ v
second-set [] i x = refl
second-set (a ∷ v) zero x = ap₂ (λ y l. y ∷ l) (same-outer-two a x) (none-set v)
second-set (a ∷ v) (suc i) x = ap₂ (λ y l. y ∷ l) (same-first-two a a) (second-set v i x)

pub third-set : (v : List ℕ) (i x : ℕ) → majorities v v (slice_set v i x) ≡ v
third-set [] i x = refl
third-set (a ∷ v) zero x = ap₂ (λ y l. y ∷ l) (same-first-two a x) (none-set v)
third-set (a ∷ v) (suc i) x = ap₂ (λ y l. y ∷ l) (same-first-two a a) (third-set v i x)
