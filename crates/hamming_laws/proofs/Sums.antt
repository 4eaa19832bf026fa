-- The sums at one bit place, and what an inversion does to them.
use Rattle.std.proofs.Common.{◌≡◌, ◌≢◌, ◌⊎◌, inl, inr, ℕ, zero, suc, ◌+◌, ◌^◌, ◌<◌, ◌≤◌, Bool, true, false, not, nat_eq, nat_lt, if◌then◌else◌, List, [], ◌∷◌, ◌++◌, length, map, Option, Some, None, option_map, slice_get, bit_xor, refl, sym, ap, ap₂, ◌∙◌, arith, eq-eqb, ne_eqb, lt-ltb, subst}
use Rattle.std.specs.Int.Bits.{xor_assoc, xor_self, xor_zero_r}
use Rattle.std.specs.List.{range_with_len}
use Rattle.std.proofs.lemmas.Nat.{xor_lt, pow_pos}
use Rattle.std.proofs.lemmas.Option.{none-some, same_Some, slice_get_within}
use Rattle.std.proofs.lemmas.Bool.{cases_lt, cases_eq, eqb-true}
use Rattle.hamming_gen.specs.HammingWords.{Slot, is_set, is_odd, sums, inverted_at, mended_place, check_slot, check_bits, parity_slot}
use Rattle.hamming_laws.specs.Places.{counted, IsRight, inverted, IsWithin}
use Rattle.hamming_laws.proofs.Bits.{differ, not-not, is_set-xor, is_set-zero, is_set-power, is_set-other_power, is_set-above, same-numbers, xor-swap, xor-cancel, xor-same}

-- ---- digits

-- a slot whose bit is set
sums-set : (s : Slot) (rest : List Slot) (bits : List Bool) (j : ℕ) → is_set (sums rest bits) j
    ≡ is_odd (counted j rest bits)
    → is_set (bit_xor s.position (sums rest bits)) j ≡ is_odd (counted j (s ∷ rest) (true ∷ bits))
sums-set s rest bits j e =
    is_set-xor s.position (sums rest bits) j ∙ ap (differ (is_set s.position j)) e
    ∙ both (is_set s.position j) (counted j rest bits)
  where
    both : (d : Bool) (more : List Bool) → differ d (is_odd more) ≡ is_odd (if d then true ∷ more else more)
    both true more = refl
    both false more = refl

sums-unset : (d : Bool) (more : List Bool) → is_odd more ≡ is_odd (if d then false ∷ more else more)
sums-unset true more = refl
sums-unset false more = refl

pub digits-are-sums : (part : List Slot) (bits : List Bool) (j : ℕ) → is_set (sums part bits) j
    ≡ is_odd (counted j part bits)
digits-are-sums [] bits j = is_set-zero j
digits-are-sums (s ∷ rest) [] j = is_set-zero j
digits-are-sums (s ∷ rest) (true ∷ bits) j = sums-set s rest bits j (digits-are-sums rest bits j)
digits-are-sums (s ∷ rest) (false ∷ bits) j =
    digits-are-sums rest bits j ∙ sums-unset (is_set s.position j) (counted j rest bits)

-- ---- lists one behind another

pub sums-append : (a b : List Slot) (m n : List Bool) → length m ≡ length a → sums (a ++ b) (m ++ n)
    ≡ bit_xor (sums a m) (sums b n)
sums-append [] b [] n e = refl
sums-append [] b (bit ∷ m) n e = absurd (omega arith)
sums-append (s ∷ a) b [] n e = absurd (omega arith)
sums-append (s ∷ a) b (true ∷ m) n e =
    ap (bit_xor s.position) (sums-append a b m n (omega arith)) ∙ sym (xor_assoc s.position (sums a m) (sums b n))
sums-append (s ∷ a) b (false ∷ m) n e = sums-append a b m n (omega arith)

pub sums-parity : (bit : Bool) → sums (parity_slot ∷ []) (bit ∷ []) ≡ 0
sums-parity true = refl
sums-parity false = refl

-- positions that are below a power of two
abbrev pub AllBelow : ℕ → List Slot → Type 0
AllBelow n [] = Unit {0}
AllBelow n (s ∷ rest) = (s.position < n) × AllBelow n rest

pub sums-below : (r : ℕ) (part : List Slot) (bits : List Bool) → AllBelow (2 ^ r) part → sums part bits < 2 ^ r
sums-below r [] bits h = pow_pos r
sums-below r (s ∷ rest) [] h = pow_pos r
sums-below r (s ∷ rest) (true ∷ bits) h = xor_lt r s.position (sums rest bits) h.0 (sums-below r rest bits h.1)
sums-below r (s ∷ rest) (false ∷ bits) h = sums-below r rest bits h.1

-- ---- check words

-- those from number j on, so many
abbrev pub from_number : ℕ → ℕ → List Slot
from_number j n = map check_slot (range_with_len j n)

pub bits-skip : (j n i : ℕ) (b : Bool) (bits : List Bool) → i ≢ j
    → is_set (sums (from_number j (suc n)) (b ∷ bits)) i ≡ is_set (sums (from_number (j + 1) n) bits) i
bits-skip j n i true bits h =
    is_set-xor (2 ^ j) (sums (from_number (j + 1) n) bits) i
    ∙ ap (λ d. differ d (is_set (sums (from_number (j + 1) n) bits) i)) (is_set-other_power j i h)
bits-skip j n i false bits h = refl

apart-above : (i j : ℕ) → i < j → i ≢ j
apart-above i j h = λ e. omega (arith, h, e)

pub apart-below : (i j : ℕ) → j < i → i ≢ j
apart-below i j h = λ e. omega (arith, h, e)

bits-low : (j n i : ℕ) (bits : List Bool) → i < j → is_set (sums (from_number j n) bits) i ≡ false
bits-low j zero i bits h = is_set-zero i
bits-low j (suc n) i [] h = is_set-zero i
bits-low j (suc n) i (b ∷ bits) h =
    bits-skip j n i b bits (apart-above i j h) ∙ bits-low (j + 1) n i bits (omega arith)

bits-high : (j n i : ℕ) (bits : List Bool) → j + n ≤ i → is_set (sums (from_number j n) bits) i ≡ false
bits-high j zero i bits h = is_set-zero i
bits-high j (suc n) i [] h = is_set-zero i
bits-high j (suc n) i (b ∷ bits) h =
    bits-skip j n i b bits (apart-below i j (omega arith)) ∙ bits-high (j + 1) n i bits (omega arith)

pub bits-here : (j n : ℕ) (b : Bool) (bits : List Bool) → is_set (sums (from_number j (suc n)) (b ∷ bits)) j ≡ b
bits-here j n true bits =
    is_set-xor (2 ^ j) (sums (from_number (j + 1) n) bits) j
    ∙ ap₂ differ (is_set-power j) (bits-low (j + 1) n j bits (omega arith))
bits-here j n false bits = bits-low (j + 1) n j bits (omega arith)

-- they tell the digits of a sum
checks-at : (sum j n i : ℕ) → j ≤ i → i < j + n
    → is_set (sums (from_number j n) (map (is_set sum) (range_with_len j n))) i ≡ is_set sum i
checks-at sum j zero i l h = absurd (omega arith)
checks-at sum j (suc n) i l h =
    by (cases_eq i j) (λ o. checks-at sum (j + 1) n i (omega (arith, o)) (omega arith))
  where
    by : (i ≡ j) ⊎ (i ≡ j → ⊥)
        → ((i ≡ j → ⊥) → is_set (sums (from_number (j + 1) n) (map (is_set sum) (range_with_len (j + 1) n))) i
        ≡ is_set sum i)
        → is_set (sums (from_number j (suc n)) (map (is_set sum) (range_with_len j (suc n)))) i ≡ is_set sum i
    by (inl e) rest =
        subst (λ x. is_set (sums (from_number j (suc n)) (map (is_set sum) (range_with_len j (suc n)))) x ≡ is_set sum x)
        (sym e) (bits-here j n (is_set sum j) (map (is_set sum) (range_with_len (j + 1) n)))
    by (inr o) rest = bits-skip j n i (is_set sum j) (map (is_set sum) (range_with_len (j + 1) n)) o ∙ rest o

-- and no other bits do
checks-only : (sum j n : ℕ) (bits : List Bool) → length bits ≡ n
    → ((i : ℕ) → j ≤ i → i < j + n → is_set (sums (from_number j n) bits) i ≡ is_set sum i)
    → bits ≡ map (is_set sum) (range_with_len j n)
checks-only sum j zero [] e h = refl
checks-only sum j zero (b ∷ bits) e h = absurd (omega arith)
checks-only sum j (suc n) [] e h = absurd (omega arith)
checks-only sum j (suc n) (b ∷ bits) e h =
    ap₂ (λ x l. x ∷ l) (sym (bits-here j n b bits) ∙ h j (omega arith) (omega arith))
    (checks-only sum (j + 1) n bits (omega arith)
    (λ i l g. sym (bits-skip j n i b bits (apart-below i j (omega arith))) ∙ h i (omega arith) (omega arith)))

pub only-checks : (r sum : ℕ) (bits : List Bool) → length bits ≡ r → sums (from_number 0 r) bits ≡ sum
    → bits ≡ check_bits r sum
only-checks r sum bits e h = checks-only sum 0 r bits e (λ i l g. ap (λ x. is_set x i) h)

pub sums-checks : (r sum : ℕ) → sum < 2 ^ r → sums (from_number 0 r) (check_bits r sum) ≡ sum
sums-checks r sum h = same-numbers (sums (from_number 0 r) (check_bits r sum)) sum (λ i. by i (cases_lt i r))
  where
    by : (i : ℕ) → (i < r) ⊎ (r ≤ i) → is_set (sums (from_number 0 r) (check_bits r sum)) i ≡ is_set sum i
    by i (inl l) = checks-at sum 0 r i (omega arith) (omega arith)
    by i (inr l) = bits-high 0 r i (check_bits r sum) (omega arith) ∙ sym (is_set-above sum r i h l)

-- ---- an inversion

pub length-inverted : (i : ℕ) (bits : List Bool) → length (inverted i bits) ≡ length bits
length-inverted i [] = refl
length-inverted zero (bit ∷ bits) = refl
length-inverted (suc i) (bit ∷ bits) = ap (λ n. suc n) (length-inverted i bits)

pub inverted-twice : (i : ℕ) (bits : List Bool) → inverted i (inverted i bits) ≡ bits
inverted-twice i [] = refl
inverted-twice zero (bit ∷ bits) = ap (λ b. b ∷ bits) (not-not bit)
inverted-twice (suc i) (bit ∷ bits) = ap (λ l. bit ∷ l) (inverted-twice i bits)

pub odd-inverted : (i : ℕ) (bits : List Bool) → i < length bits → is_odd (inverted i bits) ≡ not (is_odd bits)
odd-inverted i [] h = absurd (omega arith)
odd-inverted zero (true ∷ bits) h = sym (not-not (is_odd bits))
odd-inverted zero (false ∷ bits) h = refl
odd-inverted (suc i) (true ∷ bits) h = ap not (odd-inverted i bits (omega arith))
odd-inverted (suc i) (false ∷ bits) h = odd-inverted i bits (omega arith)

pub sums-inverted : (part : List Slot) (bits : List Bool) (i : ℕ) (s : Slot) → i < length bits
    → slice_get part i ≡ Some s
    → sums part (inverted i bits) ≡ bit_xor s.position (sums part bits)
sums-inverted [] bits i s e g = absurd (none-some s g)
sums-inverted (x ∷ part) [] i s e g = absurd (omega arith)
sums-inverted (x ∷ part) (true ∷ bits) zero s e g =
    let same : x ≡ s = same_Some x s g in
    sym (xor-cancel x.position (sums part bits)) ∙ ap (λ y. bit_xor y.position (bit_xor x.position (sums part bits))) same
sums-inverted (x ∷ part) (false ∷ bits) zero s e g =
    let same : x ≡ s = same_Some x s g in
    ap (λ y. bit_xor y.position (sums part bits)) same
sums-inverted (x ∷ part) (true ∷ bits) (suc i) s e g =
    ap (bit_xor x.position) (sums-inverted part bits i s (omega arith) g) ∙ xor-swap x.position s.position (sums part bits)
sums-inverted (x ∷ part) (false ∷ bits) (suc i) s e g = sums-inverted part bits i s (omega arith) g

-- ---- positions that differ

abbrev pub Apart : ℕ → List Slot → Type 0
Apart p [] = Unit {0}
Apart p (s ∷ rest) = (p ≢ s.position) × Apart p rest

abbrev pub AllApart : List Slot → Type 0
AllApart [] = Unit {0}
AllApart (s ∷ rest) = Apart s.position rest × AllApart rest

pub apart-at : (p : ℕ) (part : List Slot) (i : ℕ) (s : Slot) → Apart p part → slice_get part i ≡ Some s → p ≢ s.position
apart-at p [] i s h g = absurd (none-some s g)
apart-at p (x ∷ part) zero s h g = λ e. h.0 (e ∙ ap (λ y. y.position) (sym (same_Some x s g)))
apart-at p (x ∷ part) (suc i) s h g = apart-at p part i s h.1 g

pub all-apart-at : (part : List Slot) (i j : ℕ) (s t : Slot) → AllApart part → slice_get part i ≡ Some s
    → slice_get part j ≡ Some t → s.position ≡ t.position → i ≡ j
all-apart-at [] i j s t h g k e = absurd (none-some s g)
all-apart-at (x ∷ part) zero zero s t h g k e = refl
all-apart-at (x ∷ part) zero (suc j) s t h g k e =
    absurd (apart-at x.position part j t h.0 k (ap (λ y. y.position) (same_Some x s g) ∙ e))
all-apart-at (x ∷ part) (suc i) zero s t h g k e =
    absurd (apart-at x.position part i s h.0 g (ap (λ y. y.position) (same_Some x t k) ∙ sym e))
all-apart-at (x ∷ part) (suc i) (suc j) s t h g k e = ap (λ n. suc n) (all-apart-at part i j s t h.1 g k e)

-- ---- the bit at a position

pub inverted-found : (place : ℕ) (part : List Slot) (bits : List Bool) (i p : ℕ) (s : Slot) → length bits ≡ length part
    → AllApart part → slice_get part i ≡ Some s → s.position ≡ p → nat_lt place s.width ≡ true
    → inverted_at place p part bits ≡ Some (inverted i bits)
inverted-found place [] bits i p s e h g q w = absurd (none-some s g)
inverted-found place (x ∷ part) [] i p s e h g q w = absurd (omega arith)
inverted-found place (x ∷ part) (bit ∷ bits) zero p s e h g q w =
    let same : x ≡ s = same_Some x s g in
    let here : nat_eq x.position p ≡ true = eq-eqb x.position p (ap (λ y. y.position) same ∙ q) in
    let wide : nat_lt place x.width ≡ true = ap (λ y. nat_lt place y.width) same ∙ w in
    ap (λ t. if t then (if nat_lt place x.width then Some (not bit ∷ bits) else None)
    else option_map (λ more. bit ∷ more) (inverted_at place p part bits)) here
    ∙ ap (λ t. if t then Some (not bit ∷ bits) else None) wide
inverted-found place (x ∷ part) (bit ∷ bits) (suc i) p s e h g q w =
    let other : nat_eq x.position p ≡ false = ne_eqb x.position p (λ f. apart-at x.position part i s h.0 g (f ∙ sym q)) in
    ap (λ t. if t then (if nat_lt place x.width then Some (not bit ∷ bits) else None)
    else option_map (λ more. bit ∷ more) (inverted_at place p part bits)) other
    ∙ ap (option_map (λ more. bit ∷ more)) (inverted-found place part bits i p s (omega arith) h.1 g q w)

-- what is inverted, if anything
pub record IsInverted (part : List Slot) (p place : ℕ) (bits after : List Bool) : Type 0 where
  pub number : ℕ
  pub slot : Slot
  pub slot_is : slice_get part number ≡ Some slot
  pub position : slot.position ≡ p
  pub within : nat_lt place slot.width ≡ true
  pub inside : number < length bits
  pub after_is : after ≡ inverted number bits

-- by whether the first position is the one that is sought, and whether the place is below its width
abbrev chosen : Bool → List Bool → Bool → Bool → Option (List Bool) → Option (List Bool)
chosen bit bits here wide rest =
    if here then (if wide then Some (not bit ∷ bits) else None) else option_map (λ more. bit ∷ more) rest

further : (part : List Slot) (x : Slot) (p place : ℕ) (bits : List Bool) (bit : Bool) (more after : List Bool)
    → IsInverted part p place bits more → bit ∷ more ≡ after → IsInverted (x ∷ part) p place (bit ∷ bits) after
further part x p place bits bit more after h e = record {
  number = suc h.number;
  slot = h.slot;
  slot_is = h.slot_is;
  position = h.position;
  within = h.within;
  inside = suc-less h.inside;
  after_is = sym e ∙ ap (λ l. bit ∷ l) h.after_is;
}
  where
    suc-less : {a b : ℕ} → a < b → suc a < suc b
    suc-less h = omega arith

pub inverted-some : (place p : ℕ) (part : List Slot) (bits after : List Bool) → inverted_at place p part bits ≡ Some after
    → IsInverted part p place bits after
inverted-some place p [] bits after e = absurd (none-some after e)
inverted-some place p (x ∷ part) [] after e = absurd (none-some after e)
inverted-some place p (x ∷ part) (bit ∷ bits) after e =
    by (nat_eq x.position p) refl (nat_lt place x.width) refl (inverted_at place p part bits) refl e
    (λ more k. inverted-some place p part bits more k)
  where
    by : (t : Bool) → nat_eq x.position p ≡ t → (w : Bool) → nat_lt place x.width ≡ w → (o : Option (List Bool))
        → inverted_at place p part bits ≡ o → chosen bit bits t w o ≡ Some after
        → ((more : List Bool) → inverted_at place p part bits ≡ Some more → IsInverted part p place bits more)
        → IsInverted (x ∷ part) p place (bit ∷ bits) after
    by true f true g o k e rest = record {
      number = 0;
      slot = x;
      slot_is = refl;
      position = eqb-true x.position p f;
      within = g;
      inside = omega arith;
      after_is = sym (same_Some (not bit ∷ bits) after e);
    }
    by true f false g o k e rest = absurd (none-some after e)
    by false f w g None k e rest = absurd (none-some after e)
    by false f w g (Some more) k e rest =
        further part x p place bits bit more after (rest more k) (same_Some (bit ∷ more) after e)

slot-at : (part : List Slot) (i : ℕ) → i < length part → (s : Slot) × (slice_get part i ≡ Some s)
slot-at [] i h = absurd (omega arith)
slot-at (s ∷ part) zero h = (s, refl)
slot-at (s ∷ part) (suc i) h = slot-at part i (omega arith)

-- ---- what repair leaves at a place

module _ (part : List Slot) (place : ℕ) (bits : List Bool) where
  abbrev mended-by : Bool → Bool → Option (List Bool)
  mended-by odd zero_sums =
      if odd then inverted_at place (sums part bits) part bits else (if zero_sums then Some bits else None)

  mended-at : (odd zero_sums : Bool) → is_odd bits ≡ odd → nat_eq (sums part bits) 0 ≡ zero_sums
      → mended_place part place bits ≡ mended-by odd zero_sums
  mended-at odd zero_sums p q = ap₂ mended-by p q

  pub right-stays : IsRight part bits → mended_place part place bits ≡ Some bits
  right-stays h = mended-at false true h.even (eq-eqb (sums part bits) 0 h.sums_are_zero)

  pub odd-mended : is_odd bits ≡ true → mended_place part place bits ≡ inverted_at place (sums part bits) part bits
  odd-mended h = mended-at true (nat_eq (sums part bits) 0) h refl

  pub even-mended : is_odd bits ≡ false
      → mended_place part place bits ≡ (if nat_eq (sums part bits) 0 then Some bits else None)
  even-mended h = mended-at false (nat_eq (sums part bits) 0) h refl

  pub even-none : is_odd bits ≡ false → (sums part bits ≡ 0 → ⊥) → mended_place part place bits ≡ None
  even-none h n = mended-at false false h (ne_eqb (sums part bits) 0 n)

  -- nothing, or one bit below the width of its word, is inverted
  pub mended-cases : (after : List Bool) → mended_place part place bits ≡ Some after
      → (after ≡ bits) ⊎ IsInverted part (sums part bits) place bits after
  mended-cases after e = by (is_odd bits) refl (nat_eq (sums part bits) 0) refl
    where
      by : (odd : Bool) → is_odd bits ≡ odd → (z : Bool) → nat_eq (sums part bits) 0 ≡ z
          → (after ≡ bits) ⊎ IsInverted part (sums part bits) place bits after
      by true p z q = inr (inverted-some place (sums part bits) part bits after (sym (mended-at true z p q) ∙ e))
      by false p true q = inl (sym (same_Some bits after (sym (mended-at false true p q) ∙ e)))
      by false p false q = absurd (none-some after (sym (mended-at false false p q) ∙ e))

  pub mended-size : (after : List Bool) → mended_place part place bits ≡ Some after → length after ≡ length bits
  mended-size after e = by (mended-cases after e)
    where
      by : (after ≡ bits) ⊎ IsInverted part (sums part bits) place bits after → length after ≡ length bits
      by (inl same) = ap length same
      by (inr h) = ap length h.after_is ∙ length-inverted h.number bits

  inverted-right : (after : List Bool) → is_odd bits ≡ true → IsInverted part (sums part bits) place bits after
      → IsRight part after
  inverted-right after odd h = record {
    sums_are_zero = ap (sums part) h.after_is ∙ sums-inverted part bits h.number h.slot h.inside h.slot_is
        ∙ ap (λ p. bit_xor p (sums part bits)) h.position ∙ xor_self (sums part bits);
    even = ap is_odd h.after_is ∙ odd-inverted h.number bits h.inside ∙ ap not odd;
  }

  pub mended-is-right : (after : List Bool) → mended_place part place bits ≡ Some after → IsRight part after
  mended-is-right after e = by (is_odd bits) refl (nat_eq (sums part bits) 0) refl
    where
      by : (odd : Bool) → is_odd bits ≡ odd → (z : Bool) → nat_eq (sums part bits) 0 ≡ z → IsRight part after
      by true p z q =
          inverted-right after p (inverted-some place (sums part bits) part bits after (sym (mended-at true z p q) ∙ e))
      by false p true q =
          subst (IsRight part) (same_Some bits after (sym (mended-at false true p q) ∙ e))
          (record { sums_are_zero = eqb-true (sums part bits) 0 q; even = p })
      by false p false q = absurd (none-some after (sym (mended-at false false p q) ∙ e))

-- ---- inversions of what is right

module _ (part : List Slot) (place : ℕ) (bits : List Bool) (len : length bits ≡ length part) (apart : AllApart part)
    (right : IsRight part bits) where
  -- the sums tell the position of the word
  pub sums-of-one : (i : ℕ) (s : Slot) → i < length bits → slice_get part i ≡ Some s
      → sums part (inverted i bits) ≡ s.position
  sums-of-one i s h g =
      sums-inverted part bits i s h g ∙ ap (bit_xor s.position) right.sums_are_zero ∙ xor_zero_r s.position

  pub odd-of-one : (i : ℕ) → i < length bits → is_odd (inverted i bits) ≡ true
  odd-of-one i h = odd-inverted i bits h ∙ ap not right.even

  pub single-is-undone : (i : ℕ) → IsWithin part i place → mended_place part place (inverted i bits) ≡ Some bits
  single-is-undone i w =
      let inside : i < length bits = omega (arith, slice_get_within part i w.slot w.slot_is) in
      let position = sums-of-one i w.slot inside w.slot_is in
      odd-mended part place (inverted i bits) (odd-of-one i inside)
      ∙ inverted-found place part (inverted i bits) i (sums part (inverted i bits)) w.slot (length-inverted i bits ∙ len)
      apart w.slot_is (sym position) (lt-ltb place w.slot.width w.within)
      ∙ ap Some (inverted-twice i bits)

  pub double-is-noticed : (i j : ℕ) → i < length bits → j < length bits → i ≢ j
      → mended_place part place (inverted j (inverted i bits)) ≡ None
  double-is-noticed i j p q n =
      by (slot-at part i (omega (arith, p, len))) (slot-at part j (omega (arith, q, len)))
    where
      by : (s : Slot) × (slice_get part i ≡ Some s) → (t : Slot) × (slice_get part j ≡ Some t)
          → mended_place part place (inverted j (inverted i bits)) ≡ None
      by (s, g) (t, k) =
          let odd : is_odd (inverted j (inverted i bits)) ≡ false =
          odd-inverted j (inverted i bits) (omega (arith, q, length-inverted i bits)) ∙ ap not (odd-of-one i p) in
          let both : sums part (inverted j (inverted i bits)) ≡ bit_xor t.position s.position =
          sums-inverted part (inverted i bits) j t (omega (arith, q, length-inverted i bits)) k
          ∙ ap (bit_xor t.position) (sums-of-one i s p g) in
          even-none part place (inverted j (inverted i bits)) odd
          (λ z. n (all-apart-at part i j s t apart g k (sym (xor-same t.position s.position (sym both ∙ z)))))
