-- The laws of one bit place.
use Rattle.std.proofs.Common.{◌≡◌, ℕ, zero, suc, ◌+◌, Bool, List, [], ◌∷◌, ◌++◌, length, map, take, drop, bit_xor, refl, sym, ap, ap₂, ◌∙◌, arith, append_assoc, length-append, length-drop, length-take-le, take-append-drop, subst}
use Rattle.std.specs.Int.Bits.{xor_self, xor_zero_r}
use Rattle.std.specs.List.{range_with_len}
use Rattle.std.proofs.lemmas.List.{length-map}
use Rattle.agxx_base.specs.declared.kind.NumKind.{NumKind}
use Rattle.hamming_gen.specs.Positions.{check_words}
use Rattle.hamming_gen.specs.HammingWords.{slots, member_slots, parity_slot, is_set, is_odd, sums, check_bits, checked_place, added_place, extra_words}
use Rattle.hamming_laws.specs.Places.{IsRight, PlacesMend}
use Rattle.hamming_laws.proofs.Bits.{differ, differ-self, differ-same, is_odd-append, is_odd-one, xor-same}
use Rattle.hamming_laws.proofs.Sums.{digits-are-sums, sums-append, sums-parity, sums-below, from_number, sums-checks, only-checks, right-stays, mended-is-right, single-is-undone, double-is-noticed}
use Rattle.hamming_laws.proofs.Lost.{none-is-lost, lost-is-none}
use Rattle.hamming_laws.proofs.PositionsOfWords.{added, all-apart, all-below, length-members, length-slots}

-- ---- the bits that are added

pub length-range : (j n : ℕ) → length (range_with_len j n) ≡ n
length-range j zero = refl
length-range j (suc n) = ap (λ m. suc m) (length-range (j + 1) n)

pub length-checks : (r sum : ℕ) → length (check_bits r sum) ≡ r
length-checks r sum = length-map (range_with_len 0 r) (is_set sum) ∙ length-range 0 r

pub length-from : (j n : ℕ) → length (from_number j n) ≡ n
length-from j zero = refl
length-from j (suc n) = ap (λ m. suc m) (length-from (j + 1) n)

pub length-added_place : (kinds : List NumKind) (bits : List Bool) → length (added_place kinds bits)
    ≡ extra_words (length kinds)
length-added_place kinds bits =
    length-append (checked_place kinds bits) (is_odd (bits ++ checked_place kinds bits) ∷ [])
    ∙ ap (λ n. n + 1) (length-checks (check_words (length kinds)) (sums (member_slots 3 kinds) bits))

-- the sums of bits of members, of check words and of the parity word
pub sums-of : (kinds : List NumKind) (m c : List Bool) (p : Bool) → length m ≡ length kinds
    → length c ≡ check_words (length kinds)
    → sums (slots kinds) (m ++ (c ++ p ∷ []))
    ≡ bit_xor (sums (member_slots 3 kinds) m) (sums (from_number 0 (check_words (length kinds))) c)
sums-of kinds m c p e f =
    let r = check_words (length kinds) in
    sums-append (member_slots 3 kinds) (added 0 r) m (c ++ p ∷ []) (e ∙ sym (length-members 3 kinds))
    ∙ ap (bit_xor (sums (member_slots 3 kinds) m))
    (sums-append (from_number 0 r) (parity_slot ∷ []) c (p ∷ []) (f ∙ sym (length-from 0 r))
    ∙ ap (bit_xor (sums (from_number 0 r) c)) (sums-parity p) ∙ xor_zero_r (sums (from_number 0 r) c))

pub odd-of : (m c : List Bool) (p : Bool) → is_odd (m ++ (c ++ p ∷ [])) ≡ differ (is_odd (m ++ c)) p
odd-of m c p =
    ap is_odd (sym (append_assoc m c (p ∷ []))) ∙ is_odd-append (m ++ c) (p ∷ [])
    ∙ ap (differ (is_odd (m ++ c))) (is_odd-one p)

pub added-is-right : (kinds : List NumKind) (bits : List Bool) → length bits ≡ length kinds
    → IsRight (slots kinds) (bits ++ added_place kinds bits)
added-is-right kinds bits e =
    let r = check_words (length kinds) in
    let sum = sums (member_slots 3 kinds) bits in
    record {
      sums_are_zero =
          sums-of kinds bits (checked_place kinds bits) (is_odd (bits ++ checked_place kinds bits)) e (length-checks r sum)
          ∙ ap (bit_xor sum) (sums-checks r sum (sums-below r (member_slots 3 kinds) bits (all-below kinds)))
          ∙ xor_self sum;
      even =
          odd-of bits (checked_place kinds bits) (is_odd (bits ++ checked_place kinds bits))
          ∙ differ-self (is_odd (bits ++ checked_place kinds bits));
    }

-- ---- no other bits

pub record IsSplit (n : ℕ) (bits : List Bool) : Type 0 where
  pub first : List Bool
  pub last : Bool
  pub size : length first ≡ n
  pub joined : bits ≡ first ++ last ∷ []

split-last : (n : ℕ) (bits : List Bool) → length bits ≡ n + 1 → IsSplit n bits
split-last n [] e = absurd (omega arith)
split-last zero (b ∷ []) e = record { first = []; last = b; size = refl; joined = refl }
split-last zero (b ∷ c ∷ bits) e = absurd (omega arith)
split-last (suc n) (b ∷ bits) e =
    let s = split-last n bits (omega arith) in
    record { first = b ∷ s.first; last = s.last; size = ap (λ m. suc m) s.size; joined = ap (λ l. b ∷ l) s.joined }

only-added : (kinds : List NumKind) (m c : List Bool) (p : Bool) → length m ≡ length kinds
    → length c ≡ check_words (length kinds) → IsRight (slots kinds) (m ++ (c ++ p ∷ []))
    → c ++ p ∷ [] ≡ added_place kinds m
only-added kinds m c p e f h =
    let r = check_words (length kinds) in
    let sum = sums (member_slots 3 kinds) m in
    let same : c ≡ check_bits r sum =
    only-checks r sum c f (sym (xor-same sum (sums (from_number 0 r) c)
    (sym (sums-of kinds m c p e f) ∙ h.sums_are_zero))) in
    let parity : is_odd (m ++ c) ≡ p = differ-same (is_odd (m ++ c)) p (sym (odd-of m c p) ∙ h.even) in
    ap₂ (λ l q. l ++ q ∷ []) same (sym parity ∙ ap (λ l. is_odd (m ++ l)) same)

rest-is-added : (kinds : List NumKind) (m rest : List Bool) → length m ≡ length kinds
    → length rest ≡ extra_words (length kinds) → IsRight (slots kinds) (m ++ rest) → rest ≡ added_place kinds m
rest-is-added kinds m rest e f h = by (split-last (check_words (length kinds)) rest f)
  where
    by : IsSplit (check_words (length kinds)) rest → rest ≡ added_place kinds m
    by s =
        s.joined
        ∙ only-added kinds m s.first s.last e s.size (subst (λ l. IsRight (slots kinds) (m ++ l)) s.joined h)

pub right-is-added : (kinds : List NumKind) (bits : List Bool) → length bits ≡ length (slots kinds)
    → IsRight (slots kinds) bits
    → bits ≡ take (length kinds) bits ++ added_place kinds (take (length kinds) bits)
right-is-added kinds bits e h =
    let all : length bits ≡ length kinds + extra_words (length kinds) = e ∙ length-slots kinds in
    by (take-append-drop (length kinds) bits) (length-take-le (length kinds) bits (omega (arith, all)))
    (length-drop (length kinds) bits ∙ omega (arith, all))
  where
    by : take (length kinds) bits ++ drop (length kinds) bits ≡ bits → length (take (length kinds) bits) ≡ length kinds
        → length (drop (length kinds) bits) ≡ extra_words (length kinds)
        → bits ≡ take (length kinds) bits ++ added_place kinds (take (length kinds) bits)
    by whole front back =
        sym whole
        ∙ ap (λ l. take (length kinds) bits ++ l) (rest-is-added kinds (take (length kinds) bits)
        (drop (length kinds) bits) front back (subst (IsRight (slots kinds)) (sym whole) h))

pub places-mend : PlacesMend
places-mend = record {
  digits_are_sums = digits-are-sums;
  added_is_right = added-is-right;
  right_is_added = right-is-added;
  right_stays = λ kinds place bits h. right-stays (slots kinds) place bits h;
  mended_is_right = λ kinds place bits after e. mended-is-right (slots kinds) place bits after e;
  lost_exactly = λ kinds place bits l e. (none-is-lost kinds place bits l e, lost-is-none kinds place bits l e);
  single_is_undone = λ kinds place i bits e h w.
      single-is-undone (slots kinds) place bits e (all-apart kinds) h i w;
  double_is_noticed = λ kinds place i j bits e h p q n.
      double-is-noticed (slots kinds) place bits e (all-apart kinds) h i j p q n;
}
