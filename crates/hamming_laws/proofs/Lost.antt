-- Which bits can't be repaired.
use Rattle.std.proofs.Common.{◌≡◌, ◌⊎◌, inl, inr, ℕ, suc, ◌<◌, ◌≤◌, Bool, true, false, not, nat_eq, nat_lt, if◌then◌else◌, List, [], ◌∷◌, ◌++◌, length, Some, None, option_map, slice_get, refl, sym, ap, ◌∙◌, eq-eqb, lt-ltb, le-ltb}
use Rattle.std.proofs.lemmas.Option.{none-some}
use Rattle.std.proofs.lemmas.Bool.{cases_lt, eqb-true}
use Rattle.agxx_base.specs.declared.kind.NumKind.{NumKind}
use Rattle.hamming_gen.specs.Positions.{check_words}
use Rattle.hamming_gen.specs.HammingWords.{Slot, slots, member_slots, parity_slot, is_odd, sums, inverted_at, mended_place}
use Rattle.hamming_laws.specs.Places.{IsLost, inverted}
use Rattle.hamming_laws.proofs.Sums.{from_number, inverted-found, odd-mended, even-mended, even-none}
use Rattle.hamming_laws.proofs.PositionsOfWords.{all-apart}

-- a word stands at this place of a list
record IsThere (s : Slot) (part : List Slot) : Type 0 where
  number : ℕ
  slot_is : slice_get part number ≡ Some s

abbrev there-later : (s x : Slot) (part : List Slot) → IsThere s part → IsThere s (x ∷ part)
there-later s x part h = record { number = suc h.number; slot_is = h.slot_is }

there-front : (s : Slot) (a b : List Slot) → IsThere s b → IsThere s (a ++ b)
there-front s [] b h = h
there-front s (x ∷ a) b h = there-later s x (a ++ b) (there-front s a b h)

parity-there : (kinds : List NumKind) → IsThere parity_slot (slots kinds)
parity-there kinds =
    there-front parity_slot (member_slots 3 kinds) (from_number 0 (check_words (length kinds)) ++ parity_slot ∷ [])
    (there-front parity_slot (from_number 0 (check_words (length kinds))) (parity_slot ∷ [])
    (record { number = 0; slot_is = refl }))

-- no word of this position has a bit at the place
abbrev HasNone : List Slot → ℕ → ℕ → Type 0
HasNone part p place = (i : ℕ) (s : Slot) → slice_get part i ≡ Some s → s.position ≡ p → s.width ≤ place

none-inverted : (place p : ℕ) (part : List Slot) (bits : List Bool) → HasNone part p place
    → inverted_at place p part bits ≡ None
none-inverted place p [] bits h = refl
none-inverted place p (s ∷ part) [] h = refl
none-inverted place p (s ∷ part) (bit ∷ bits) h =
    by (nat_eq s.position p) refl (none-inverted place p part bits (λ i x g e. h (suc i) x g e))
  where
    by : (t : Bool) → nat_eq s.position p ≡ t → inverted_at place p part bits ≡ None
        → (if t then (if nat_lt place s.width then Some (not bit ∷ bits) else None)
        else option_map (λ more. bit ∷ more) (inverted_at place p part bits)) ≡ None
    by true e rest =
        ap (λ w. if w then Some (not bit ∷ bits) else None) (le-ltb place s.width (h 0 s refl (eqb-true s.position p e)))
    by false e rest = ap (option_map (λ more. bit ∷ more)) rest

module _ (kinds : List NumKind) (place : ℕ) (bits : List Bool) (l : place < 64)
    (len : length bits ≡ length (slots kinds)) where
  found-not-none : is_odd bits ≡ true → (i : ℕ) (s : Slot) → slice_get (slots kinds) i ≡ Some s
      → s.position ≡ sums (slots kinds) bits → place < s.width
      → mended_place (slots kinds) place bits ≡ None → ⊥
  found-not-none odd i s g q w none =
      none-some (inverted i bits)
      (sym none ∙ odd-mended (slots kinds) place bits odd
      ∙ inverted-found place (slots kinds) bits i (sums (slots kinds) bits) s len (all-apart kinds) g q
      (lt-ltb place s.width w))

  zero-not-none : mended_place (slots kinds) place bits ≡ None → sums (slots kinds) bits ≡ 0 → ⊥
  zero-not-none none z = by (is_odd bits) refl (parity-there kinds)
    where
      by : (odd : Bool) → is_odd bits ≡ odd → IsThere parity_slot (slots kinds) → ⊥
      by true o h = found-not-none o h.number parity_slot h.slot_is (sym z) l none
      by false o h =
          none-some bits
          (sym none ∙ even-mended (slots kinds) place bits o
          ∙ ap (λ t. if t then Some bits else None) (eq-eqb (sums (slots kinds) bits) 0 z))

  pub none-is-lost : mended_place (slots kinds) place bits ≡ None → IsLost (slots kinds) place bits
  none-is-lost none = record {
    sums_not_zero = zero-not-none none;
    no_word = λ odd i s g q. by s.width (cases_lt place s.width) (λ w. found-not-none odd i s g q w none);
  }
    where
      by : (w : ℕ) → (place < w) ⊎ (w ≤ place) → (place < w → ⊥) → w ≤ place
      by w (inl h) never = absurd (never h)
      by w (inr h) never = h

  pub lost-is-none : IsLost (slots kinds) place bits → mended_place (slots kinds) place bits ≡ None
  lost-is-none h = by (is_odd bits) refl
    where
      by : (odd : Bool) → is_odd bits ≡ odd → mended_place (slots kinds) place bits ≡ None
      by true o =
          odd-mended (slots kinds) place bits o
          ∙ none-inverted place (sums (slots kinds) bits) (slots kinds) bits (h.no_word o)
      by false o = even-none (slots kinds) place bits o h.sums_not_zero
