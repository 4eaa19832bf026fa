-- Operations on words, at each bit place.
use Rattle.std.proofs.Common.{◌≡◌, ◌⊎◌, inl, inr, ℕ, zero, suc, ◌+◌, ◌-◌, ◌*◌, ◌^◌, ◌<◌, ◌≤◌, Bool, true, false, not, ◌&&◌, ◌||◌, nat_eq, nat_lt, if◌then◌else◌, List, [], ◌∷◌, ◌++◌, map, bit_or, bit_xor, refl, sym, ap, ap₂, ◌∙◌, arith, subst, eq-eqb, ne_eqb, lt-ltb, le-ltb, w64}
use Rattle.std.specs.Int.{bit_at}
use Rattle.std.specs.List.{range_with_len}
use Rattle.std.proofs.lemmas.Nat.{pow_pos, or_lt, xor_lt, and_le_r}
use Rattle.std.proofs.lemmas.Int.{ints}
use Rattle.std.proofs.lemmas.Nat.Bits.{bit_at_not, bit_at_ones, bit_at_ones_above, and_pow}
use Rattle.std.proofs.lemmas.Bool.{cases_lt, cases_eq, true≢false, and_parts}
use Rattle.agxx_base.specs.declared.kind.NumKind.{NumKind}
use Rattle.agxx_base.specs.declared.kind.NumKind.TheVariants as num
use Rattle.cxx_arith.specs.Kinds.{width}
use Rattle.codec.specs.Part.{unsigned_kind}
use Rattle.hamming_gen.specs.HammingWords.{is_set, is_odd, digit, place_bits, check_bits}
use Rattle.hamming_gen.specs.HammingTrees.{covers, mask_of}
use Rattle.hamming_laws.specs.Masks.{AllUnder, complement, joined, all_joined, masked}
use Rattle.hamming_laws.proofs.Bits.{differ, differ-false, digit-is_set, bit-of, is_set-xor, is_set-and, is_set-or, is_set-zero, same-numbers-below}

-- ---- truth values

pub differ-assoc : (a b c : Bool) → differ (differ a b) c ≡ differ a (differ b c)
differ-assoc true true true = refl
differ-assoc true true false = refl
differ-assoc true false c = refl
differ-assoc false b c = refl

pub differ-turned : (a b : Bool) → differ a b ≡ differ b a
differ-turned true true = refl
differ-turned true false = refl
differ-turned false true = refl
differ-turned false false = refl

pub odd-more : (b : Bool) (bits : List Bool) → is_odd (b ∷ bits) ≡ differ b (is_odd bits)
odd-more true bits = refl
odd-more false bits = refl

-- whether some bit is set
abbrev pub any : List Bool → Bool
any [] = false
any (b ∷ bits) = b || any bits

pub or-false : (a : Bool) → (a || false) ≡ a
or-false true = refl
or-false false = refl

pub or-assoc : (a b c : Bool) → ((a || b) || c) ≡ (a || (b || c))
or-assoc true b c = refl
or-assoc false b c = refl

pub and-assoc : (a b c : Bool) → ((a && b) && c) ≡ (a && (b && c))
and-assoc true b c = refl
and-assoc false b c = refl

pub and-true : (a : Bool) → (a && true) ≡ a
and-true true = refl
and-true false = refl

pub any-append : (a b : List Bool) → any (a ++ b) ≡ (any a || any b)
any-append [] b = refl
any-append (true ∷ a) b = refl
any-append (false ∷ a) b = any-append a b

-- ---- chains

pub joined-xor : (n : ℕ) (ns : List ℕ) (i : ℕ) → is_set (joined bit_xor n ns) i
    ≡ differ (is_set n i) (is_odd (place_bits i ns))
joined-xor n [] i = sym (differ-false (is_set n i))
joined-xor n (m ∷ ns) i =
    joined-xor (bit_xor n m) ns i ∙ ap (λ b. differ b (is_odd (place_bits i ns))) (is_set-xor n m i)
    ∙ differ-assoc (is_set n i) (is_set m i) (is_odd (place_bits i ns))
    ∙ ap (differ (is_set n i)) (sym (odd-more (is_set m i) (place_bits i ns)))

pub all_joined-xor : (ns : List ℕ) (i : ℕ) → is_set (all_joined bit_xor ns) i ≡ is_odd (place_bits i ns)
all_joined-xor [] i = is_set-zero i
all_joined-xor (n ∷ ns) i = joined-xor n ns i ∙ sym (odd-more (is_set n i) (place_bits i ns))

pub joined-or : (n : ℕ) (ns : List ℕ) (i : ℕ) → is_set (joined bit_or n ns) i ≡ (is_set n i || any (place_bits i ns))
joined-or n [] i = sym (or-false (is_set n i))
joined-or n (m ∷ ns) i =
    joined-or (bit_or n m) ns i ∙ ap (λ b. b || any (place_bits i ns)) (is_set-or n m i)
    ∙ or-assoc (is_set n i) (is_set m i) (any (place_bits i ns))

pub all_joined-or : (ns : List ℕ) (i : ℕ) → is_set (all_joined bit_or ns) i ≡ any (place_bits i ns)
all_joined-or [] i = is_set-zero i
all_joined-or (n ∷ ns) i = joined-or n ns i

pub joined-xor-under : (w n : ℕ) (ns : List ℕ) → n < 2 ^ w → AllUnder (2 ^ w) ns → joined bit_xor n ns < 2 ^ w
joined-xor-under w n [] h g = h
joined-xor-under w n (m ∷ ns) h g = joined-xor-under w (bit_xor n m) ns (xor_lt w n m h g.0) g.1

pub all_joined-xor-under : (w : ℕ) (ns : List ℕ) → AllUnder (2 ^ w) ns → all_joined bit_xor ns < 2 ^ w
all_joined-xor-under w [] g = pow_pos w
all_joined-xor-under w (n ∷ ns) g = joined-xor-under w n ns g.0 g.1

pub joined-or-under : (w n : ℕ) (ns : List ℕ) → n < 2 ^ w → AllUnder (2 ^ w) ns → joined bit_or n ns < 2 ^ w
joined-or-under w n [] h g = h
joined-or-under w n (m ∷ ns) h g = joined-or-under w (bit_or n m) ns (or_lt w n m h g.0) g.1

pub all_joined-or-under : (w : ℕ) (ns : List ℕ) → AllUnder (2 ^ w) ns → all_joined bit_or ns < 2 ^ w
all_joined-or-under w [] g = pow_pos w
all_joined-or-under w (n ∷ ns) g = joined-or-under w n ns g.0 g.1

-- ---- complements and masks

pub complement-is : (n : ℕ) → n < 2 ^ 64 → complement n ≡ 2 ^ 64 - 1 - n
complement-is n h = grind (arith, ints)

pub complement-under : (n : ℕ) → complement n < 2 ^ 64
complement-under zero = omega arith
complement-under (suc n) = grind (arith, ints)

not-digit : (b : Bool) → 1 - digit b ≡ digit (not b)
not-digit true = refl
not-digit false = refl

pub is_set-complement : (n i : ℕ) → n < 2 ^ 64 → i < 64 → is_set (complement n) i ≡ not (is_set n i)
is_set-complement n i h l =
    bit-of (complement n) i (not (is_set n i)) (ap (λ c. bit_at c i) (complement-is n h) ∙ bit_at_not w64 n i h l
    ∙ ap (λ d. 1 - d) (sym (digit-is_set n i)) ∙ not-digit (is_set n i))

ones-below : (w i : ℕ) → is_set (2 ^ w - 1) i ≡ nat_lt i w
ones-below w i = by (cases_lt i w)
  where
    by : (i < w) ⊎ (w ≤ i) → is_set (2 ^ w - 1) i ≡ nat_lt i w
    by (inl l) = bit-of (2 ^ w - 1) i true (bit_at_ones w i l) ∙ sym (lt-ltb i w l)
    by (inr l) = bit-of (2 ^ w - 1) i false (bit_at_ones_above w i l) ∙ sym (le-ltb i w l)

pub is_set-masked : (k : NumKind) (n i : ℕ) → unsigned_kind k ≡ k → i < 64
    → is_set (masked (mask_of k) n) i ≡ (is_set n i && nat_lt i (width k))
is_set-masked num.U8 n i u l = is_set-and n 255 i ∙ ap (λ b. is_set n i && b) (ones-below 8 i)
is_set-masked num.U16 n i u l = is_set-and n 65535 i ∙ ap (λ b. is_set n i && b) (ones-below 16 i)
is_set-masked num.U32 n i u l = is_set-and n 4294967295 i ∙ ap (λ b. is_set n i && b) (ones-below 32 i)
is_set-masked num.U64 n i u l = sym (ap (λ b. is_set n i && b) (lt-ltb i 64 l) ∙ and-true (is_set n i))
is_set-masked num.Bool n i u l = absurd (cc)
is_set-masked num.I8 n i u l = absurd (cc)
is_set-masked num.I16 n i u l = absurd (cc)
is_set-masked num.I32 n i u l = absurd (cc)
is_set-masked num.I64 n i u l = absurd (cc)

pub masked-under : (k : NumKind) (n : ℕ) → unsigned_kind k ≡ k → n < 2 ^ 64 → masked (mask_of k) n < 2 ^ width k
masked-under num.U8 n u h = omega (arith, and_le_r n 255)
masked-under num.U16 n u h = omega (arith, and_le_r n 65535)
masked-under num.U32 n u h = omega (arith, and_le_r n 4294967295)
masked-under num.U64 n u h = h
masked-under num.Bool n u h = absurd (cc)
masked-under num.I8 n u h = absurd (cc)
masked-under num.I16 n u h = absurd (cc)
masked-under num.I32 n u h = absurd (cc)
masked-under num.I64 n u h = absurd (cc)

-- a check word covers the positions that have its digit
pub covers-digit : (j p : ℕ) → covers (2 ^ j) p ≡ is_set p j
covers-digit j p =
    ap (λ n. not (nat_eq n 0)) (and_pow p j ∙ ap (λ d. d * 2 ^ j) (sym (digit-is_set p j))) ∙ by (is_set p j)
  where
    by : (b : Bool) → not (nat_eq (digit b * 2 ^ j) 0) ≡ b
    by true = ap not (ne_eqb (1 * 2 ^ j) 0 (λ e. omega (arith, e, pow_pos j)))
    by false = ap not (eq-eqb (0 * 2 ^ j) 0 (omega arith))

-- ---- digits of a sum

pub any-none : (sum j n i : ℕ) → any (map (is_set sum) (range_with_len j n)) ≡ false → j ≤ i → i < j + n
    → is_set sum i ≡ false
any-none sum j zero i e l h = absurd (omega arith)
any-none sum j (suc n) i e l h =
    by (is_set sum j) refl (any (map (is_set sum) (range_with_len (j + 1) n))) refl e (cases_eq j i)
    (λ f o. any-none sum (j + 1) n i f (omega (arith, o)) (omega arith))
  where
    by : (b : Bool) → is_set sum j ≡ b → (c : Bool) → any (map (is_set sum) (range_with_len (j + 1) n)) ≡ c
        → (b || c) ≡ false → (j ≡ i) ⊎ (j ≡ i → ⊥)
        → (any (map (is_set sum) (range_with_len (j + 1) n)) ≡ false → (j ≡ i → ⊥) → is_set sum i ≡ false)
        → is_set sum i ≡ false
    by true p c q e o rest = absurd (true≢false e)
    by false p true q e o rest = absurd (true≢false e)
    by false p false q e (inl same) rest = ap (is_set sum) (sym same) ∙ p
    by false p false q e (inr other) rest = rest q other

any-zero : (j n : ℕ) → any (map (is_set 0) (range_with_len j n)) ≡ false
any-zero j zero = refl
any-zero j (suc n) = ap (λ b. b || any (map (is_set 0) (range_with_len (j + 1) n))) (is_set-zero j) ∙ any-zero (j + 1) n

pub any-digit : (r sum : ℕ) → sum < 2 ^ r → any (check_bits r sum) ≡ not (nat_eq sum 0)
any-digit r sum h = by (any (check_bits r sum)) refl (cases_eq sum 0)
  where
    by : (b : Bool) → any (check_bits r sum) ≡ b → (sum ≡ 0) ⊎ (sum ≡ 0 → ⊥) → b ≡ not (nat_eq sum 0)
    by true e (inl z) = absurd (true≢false (sym e ∙ ap (λ s. any (check_bits r s)) z ∙ any-zero 0 r))
    by true e (inr o) = sym (ap not (ne_eqb sum 0 o))
    by false e (inl z) = sym (ap not (eq-eqb sum 0 z))
    by false e (inr o) =
        absurd (o (same-numbers-below r sum 0 h (pow_pos r)
        (λ i l. any-none sum 0 r i e (omega arith) (omega arith) ∙ sym (is_set-zero i))))

-- bits that are the digits of a position
abbrev pub agree : ℕ → ℕ → List Bool → Bool
agree p j [] = true
agree p j (b ∷ bits) = (if is_set p j then b else not b) && agree p (j + 1) bits

agree-same : (p j n : ℕ) → agree p j (map (is_set p) (range_with_len j n)) ≡ true
agree-same p j zero = refl
agree-same p j (suc n) =
    ap₂ (λ a b. a && b) (by (is_set p j)) (agree-same p (j + 1) n)
  where
    by : (b : Bool) → (if b then b else not b) ≡ true
    by true = refl
    by false = refl

one-agrees : (a b : Bool) → (if a then b else not b) ≡ true → a ≡ b
one-agrees true true e = refl
one-agrees true false e = sym e
one-agrees false true e = e
one-agrees false false e = refl

agree-digits : (p sum j n i : ℕ) → agree p j (map (is_set sum) (range_with_len j n)) ≡ true → j ≤ i → i < j + n
    → is_set p i ≡ is_set sum i
agree-digits p sum j zero i e l h = absurd (omega arith)
agree-digits p sum j (suc n) i e l h =
    by (and_parts (if is_set p j then is_set sum j else not (is_set sum j))
    (agree p (j + 1) (map (is_set sum) (range_with_len (j + 1) n))) e) (cases_eq j i)
    (λ f o. agree-digits p sum (j + 1) n i f (omega (arith, o)) (omega arith))
  where
    by : ((if is_set p j then is_set sum j else not (is_set sum j)) ≡ true)
        × (agree p (j + 1) (map (is_set sum) (range_with_len (j + 1) n)) ≡ true)
        → (j ≡ i) ⊎ (j ≡ i → ⊥)
        → (agree p (j + 1) (map (is_set sum) (range_with_len (j + 1) n)) ≡ true → (j ≡ i → ⊥)
        → is_set p i ≡ is_set sum i)
        → is_set p i ≡ is_set sum i
    by (here, more) (inl same) rest =
        subst (λ x. is_set p x ≡ is_set sum x) same (one-agrees (is_set p j) (is_set sum j) here)
    by (here, more) (inr other) rest = rest more other

pub agree-checks : (r p sum : ℕ) → p < 2 ^ r → sum < 2 ^ r → agree p 0 (check_bits r sum) ≡ nat_eq p sum
agree-checks r p sum h g = by (agree p 0 (check_bits r sum)) refl (cases_eq p sum)
  where
    by : (b : Bool) → agree p 0 (check_bits r sum) ≡ b → (p ≡ sum) ⊎ (p ≡ sum → ⊥) → b ≡ nat_eq p sum
    by true e (inl same) = sym (eq-eqb p sum same)
    by true e (inr other) =
        absurd (other (same-numbers-below r p sum h g
        (λ i l. agree-digits p sum 0 r i e (omega arith) (omega arith))))
    by false e (inl same) =
        absurd (true≢false (sym (agree-same p 0 r) ∙ ap (λ s. agree p 0 (check_bits r s)) same ∙ e))
    by false e (inr other) = sym (ne_eqb p sum other)
