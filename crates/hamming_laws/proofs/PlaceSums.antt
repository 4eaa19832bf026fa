-- What the sums on whole words are at each bit place.
use Rattle.std.proofs.Common.{◌≡◌, ℕ, zero, suc, ◌+◌, ◌^◌, ◌<◌, ◌≤◌, Bool, true, false, not, nat_eq, if◌then◌else◌, List, [], ◌∷◌, ◌++◌, length, map, bit_xor, refl, sym, ap, ap₂, ◌∙◌, arith, pow_mono, pow-suc, subst}
use Rattle.std.specs.List.{range_with_len}
use Rattle.std.proofs.lemmas.Nat.{pow_pos, xor_lt}
use Rattle.agxx_base.specs.declared.kind.NumKind.{NumKind}
use Rattle.hamming_gen.specs.Positions.{check_words, next_position}
use Rattle.hamming_gen.specs.HammingWords.{slots, member_slots, is_set, is_odd, sums, place_bits, check_bits}
use Rattle.hamming_laws.specs.Places.{counted}
use Rattle.hamming_laws.specs.Masks.{AreWords, member_numbers, check_numbers, words_of_members, words_of_checks, covered, sum_of, total, uneven, renewed_checks}
use Rattle.hamming_laws.proofs.Bits.{differ, is_odd-append, is_odd-one, is_set-xor}
use Rattle.hamming_laws.proofs.Sums.{digits-are-sums, AllBelow, sums-below, from_number, bits-skip, bits-here, apart-below}
use Rattle.hamming_laws.proofs.PositionsOfWords.{all-below}
use Rattle.hamming_laws.proofs.Places.{sums-of}
use Rattle.hamming_laws.proofs.Rebuilt.{bits-append, length-place_bits}
use Rattle.hamming_laws.proofs.Words.{fit-length}
use Rattle.hamming_laws.proofs.Operations.{differ-turned, any, joined-xor, all_joined-xor, all_joined-or, covers-digit, any-digit}

-- ---- lists of words

pub words-of-members : (q : ℕ) (kinds : List NumKind) (xs : List ℕ) → length xs ≡ length kinds
    → words_of_members (member_numbers q kinds xs) ≡ xs
words-of-members q [] [] e = refl
words-of-members q [] (x ∷ xs) e = absurd (omega arith)
words-of-members q (k ∷ kinds) [] e = refl
words-of-members q (k ∷ kinds) (x ∷ xs) e =
    ap (λ l. x ∷ l) (words-of-members (next_position q) kinds xs (omega arith))

pub words-of-checks : (j : ℕ) (hs : List ℕ) → words_of_checks (check_numbers j hs) ≡ hs
words-of-checks j [] = refl
words-of-checks j (h ∷ hs) = ap (λ l. h ∷ l) (words-of-checks (j + 1) hs)

-- ---- the sum of a check word

pub covered-bits : (j place q : ℕ) (kinds : List NumKind) (xs : List ℕ)
    → place_bits place (covered (2 ^ j) (member_numbers q kinds xs))
    ≡ counted j (member_slots q kinds) (place_bits place xs)
covered-bits j place q [] xs = refl
covered-bits j place q (k ∷ kinds) [] = refl
covered-bits j place q (k ∷ kinds) (x ∷ xs) =
    let rest = covered (2 ^ j) (member_numbers (next_position q) kinds xs) in
    ap (λ b. place_bits place (if b then x ∷ rest else rest)) (covers-digit j q)
    ∙ by (is_set q j) (covered-bits j place (next_position q) kinds xs)
  where
    by : (b : Bool)
        → place_bits place (covered (2 ^ j) (member_numbers (next_position q) kinds xs))
        ≡ counted j (member_slots (next_position q) kinds) (place_bits place xs)
        → place_bits place (if b then x ∷ covered (2 ^ j) (member_numbers (next_position q) kinds xs)
        else covered (2 ^ j) (member_numbers (next_position q) kinds xs))
        ≡ (if b then is_set x place ∷ counted j (member_slots (next_position q) kinds) (place_bits place xs)
        else counted j (member_slots (next_position q) kinds) (place_bits place xs))
    by true e = ap (λ l. is_set x place ∷ l) e
    by false e = e

-- the sums of the members' bits
abbrev member_sum : List NumKind → ℕ → List ℕ → ℕ
member_sum kinds place xs = sums (member_slots 3 kinds) (place_bits place xs)

covered-odd : (j place : ℕ) (kinds : List NumKind) (xs : List ℕ)
    → is_odd (place_bits place (covered (2 ^ j) (member_numbers 3 kinds xs))) ≡ is_set (member_sum kinds place xs) j
covered-odd j place kinds xs =
    ap is_odd (covered-bits j place 3 kinds xs) ∙ sym (digits-are-sums (member_slots 3 kinds) (place_bits place xs) j)

-- the check words from number j on have the digits of a number, where the sums of their bits do
check-digits : (place s j : ℕ) (kinds : List NumKind) (xs hs : List ℕ)
    → ((i : ℕ) → j ≤ i → i < j + length hs
    → is_set s i ≡ is_set (sums (from_number j (length hs)) (place_bits place hs)) i)
    → place_bits place (map (sum_of (member_numbers 3 kinds xs)) (check_numbers j hs))
    ≡ map (is_set (bit_xor (member_sum kinds place xs) s)) (range_with_len j (length hs))
check-digits place s j kinds xs [] same = refl
check-digits place s j kinds xs (h ∷ hs) same =
    ap₂ (λ x l. x ∷ l)
    (joined-xor h (covered (2 ^ j) (member_numbers 3 kinds xs)) place
    ∙ ap (differ (is_set h place)) (covered-odd j place kinds xs)
    ∙ differ-turned (is_set h place) (is_set (member_sum kinds place xs) j)
    ∙ ap (differ (is_set (member_sum kinds place xs) j))
    (sym (same j (omega arith) (omega arith) ∙ bits-here j (length hs) (is_set h place) (place_bits place hs)))
    ∙ sym (is_set-xor (member_sum kinds place xs) s j))
    (check-digits place s (j + 1) kinds xs hs
    (λ i l g. same i (omega arith) (omega arith)
    ∙ bits-skip j (length hs) i (is_set h place) (place_bits place hs) (apart-below i j (omega arith))))

pub checks-below : (r j n : ℕ) → j + n ≤ r → AllBelow (2 ^ r) (from_number j n)
checks-below r j zero h = tt
checks-below r j (suc n) h =
    let up : 2 ^ suc j ≤ 2 ^ r = pow_mono (omega arith) in
    (omega (arith, up, pow-suc 2 j, pow_pos j), checks-below r (j + 1) n (omega arith))

-- ---- of the words of a part

pub parted-bits : (place : ℕ) (xs hs : List ℕ) (p : ℕ) → place_bits place (xs ++ (hs ++ p ∷ []))
    ≡ place_bits place xs ++ (place_bits place hs ++ is_set p place ∷ [])
parted-bits place xs hs p =
    bits-append place xs (hs ++ p ∷ []) ∙ ap (λ l. place_bits place xs ++ l) (bits-append place hs (p ∷ []))

module _ (kinds : List NumKind) (xs hs : List ℕ) (p : ℕ) (fit : AreWords kinds xs hs p) (place : ℕ) where
  abbrev pub all_bits : List Bool
  all_bits = place_bits place (xs ++ (hs ++ p ∷ []))

  abbrev pub all_sums : ℕ
  all_sums = sums (slots kinds) all_bits

  abbrev check_sum : ℕ
  check_sum = sums (from_number 0 (check_words (length kinds))) (place_bits place hs)

  sums-parted : all_sums ≡ bit_xor (member_sum kinds place xs) check_sum
  sums-parted =
      ap (sums (slots kinds)) (parted-bits place xs hs p)
      ∙ sums-of kinds (place_bits place xs) (place_bits place hs) (is_set p place)
      (length-place_bits place xs ∙ fit-length kinds xs fit.members_fit)
      (length-place_bits place hs ∙ fit.checks_length)

  pub sums-under : all_sums < 2 ^ check_words (length kinds)
  sums-under =
      let r = check_words (length kinds) in
      subst (λ n. n < 2 ^ r) (sym sums-parted)
      (xor_lt r (member_sum kinds place xs) check_sum
      (sums-below r (member_slots 3 kinds) (place_bits place xs) (all-below kinds))
      (sums-below r (from_number 0 r) (place_bits place hs) (checks-below r 0 r (omega arith))))

  pub sums-are : place_bits place (map (sum_of (member_numbers 3 kinds xs)) (check_numbers 0 hs))
      ≡ check_bits (check_words (length kinds)) all_sums
  sums-are =
      check-digits place check_sum 0 kinds xs hs
      (λ i l g. ap (λ n. is_set (sums (from_number 0 n) (place_bits place hs)) i) (sym fit.checks_length))
      ∙ ap₂ (λ s n. map (is_set s) (range_with_len 0 n)) (sym sums-parted) fit.checks_length

  three-differ : (a b c : Bool) → differ c (differ b a) ≡ differ a (differ b c)
  three-differ true true true = refl
  three-differ true true false = refl
  three-differ true false true = refl
  three-differ true false false = refl
  three-differ false true true = refl
  three-differ false true false = refl
  three-differ false false true = refl
  three-differ false false false = refl

  pub total-is : is_set (total (member_numbers 3 kinds xs) (check_numbers 0 hs) p) place ≡ is_odd all_bits
  total-is =
      joined-xor p (words_of_checks (check_numbers 0 hs) ++ words_of_members (member_numbers 3 kinds xs)) place
      ∙ ap₂ (λ a b. differ (is_set p place) (is_odd (place_bits place (a ++ b)))) (words-of-checks 0 hs)
      (words-of-members 3 kinds xs (fit-length kinds xs fit.members_fit))
      ∙ ap (λ l. differ (is_set p place) (is_odd l)) (bits-append place hs xs)
      ∙ ap (differ (is_set p place)) (is_odd-append (place_bits place hs) (place_bits place xs))
      ∙ three-differ (is_odd (place_bits place xs)) (is_odd (place_bits place hs)) (is_set p place)
      ∙ ap (λ b. differ (is_odd (place_bits place xs)) (differ (is_odd (place_bits place hs)) b))
      (sym (is_odd-one (is_set p place)))
      ∙ ap (differ (is_odd (place_bits place xs))) (sym (is_odd-append (place_bits place hs) (is_set p place ∷ [])))
      ∙ sym (is_odd-append (place_bits place xs) (place_bits place hs ++ is_set p place ∷ []))
      ∙ ap is_odd (sym (parted-bits place xs hs p))

  pub uneven-is : is_set (uneven (member_numbers 3 kinds xs) (check_numbers 0 hs) p) place ≡ not (nat_eq all_sums 0)
  uneven-is =
      all_joined-or (map (sum_of (member_numbers 3 kinds xs)) (check_numbers 0 hs)) place
      ∙ ap any sums-are ∙ any-digit (check_words (length kinds)) all_sums sums-under

-- ---- renewal

pub renewed-bits : (place j : ℕ) (kinds : List NumKind) (xs hs : List ℕ)
    → place_bits place (renewed_checks (member_numbers 3 kinds xs) (check_numbers j hs))
    ≡ map (is_set (sums (member_slots 3 kinds) (place_bits place xs))) (range_with_len j (length hs))
renewed-bits place j kinds xs [] = refl
renewed-bits place j kinds xs (h ∷ hs) =
    ap₂ (λ x l. x ∷ l)
    (all_joined-xor (covered (2 ^ j) (member_numbers 3 kinds xs)) place ∙ covered-odd j place kinds xs)
    (renewed-bits place (j + 1) kinds xs hs)
