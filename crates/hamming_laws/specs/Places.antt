-- What is to be known of one bit place, by the words' bits there.
use Rattle.std.specs.Prelude.{◌≡◌, ◌≢◌, ◌↔◌, ℕ, zero, suc, ◌<◌, ◌≤◌, Bool, true, false, not, List, [], ◌∷◌, ◌++◌, length, take, Some, None, slice_get, if◌then◌else◌}
use Rattle.agxx_base.specs.declared.kind.NumKind.{NumKind}
use Rattle.hamming_gen.specs.HammingWords.{Slot, slots, is_set, is_odd, sums, mended_place, added_place}

-- the bits whose position has this binary digit
abbrev pub counted : ℕ → List Slot → List Bool → List Bool
counted j [] bits = []
counted j (s ∷ rest) [] = []
counted j (s ∷ rest) (bit ∷ bits) = if is_set s.position j then bit ∷ counted j rest bits else counted j rest bits

-- the sum of each digit is 0, and that of all bits is
pub record IsRight (part : List Slot) (bits : List Bool) : Type 0 where
  pub sums_are_zero : sums part bits ≡ 0
  pub even : is_odd bits ≡ false

-- the bits with the one of this number inverted
abbrev pub inverted : ℕ → List Bool → List Bool
inverted i [] = []
inverted zero (bit ∷ bits) = not bit ∷ bits
inverted (suc i) (bit ∷ bits) = bit ∷ inverted i bits

-- the bit of this number may be inverted at this place
pub record IsWithin (part : List Slot) (i place : ℕ) : Type 0 where
  pub slot : Slot
  pub slot_is : slice_get part i ≡ Some slot
  pub within : place < slot.width

-- the sums aren't 0, and they tell of no bit that could be inverted: the bits are even, or no word of that position has a
-- bit at the place
pub record IsLost (part : List Slot) (place : ℕ) (bits : List Bool) : Type 0 where
  pub sums_not_zero : sums part bits ≢ 0
  pub no_word : is_odd bits ≡ true → (i : ℕ) (s : Slot) → slice_get part i ≡ Some s → s.position ≡ sums part bits
      → s.width ≤ place

-- of a part whose members have these unsigned kinds, at any place
pub record PlacesMend : Type 0 where
  -- digit j of the sums is the sum modulo 2 of the bits whose position has digit j
  pub digits_are_sums : (part : List Slot) (bits : List Bool) (j : ℕ) → is_set (sums part bits) j
      ≡ is_odd (counted j part bits)
  -- with the bits that are added to those of the members all is right, and no other bits do that
  pub added_is_right : (kinds : List NumKind) (bits : List Bool) → length bits ≡ length kinds
      → IsRight (slots kinds) (bits ++ added_place kinds bits)
  pub right_is_added : (kinds : List NumKind) (bits : List Bool) → length bits ≡ length (slots kinds)
      → IsRight (slots kinds) bits
      → bits ≡ take (length kinds) bits ++ added_place kinds (take (length kinds) bits)
  -- what is right is left as it is, and what repair leaves is right
  pub right_stays : (kinds : List NumKind) (place : ℕ) (bits : List Bool) → IsRight (slots kinds) bits
      → mended_place (slots kinds) place bits ≡ Some bits
  pub mended_is_right : (kinds : List NumKind) (place : ℕ) (bits after : List Bool)
      → mended_place (slots kinds) place bits ≡ Some after → IsRight (slots kinds) after
  -- exactly what is lost can't be repaired
  pub lost_exactly : (kinds : List NumKind) (place : ℕ) (bits : List Bool) → place < 64
      → length bits ≡ length (slots kinds)
      → (mended_place (slots kinds) place bits ≡ None) ↔ IsLost (slots kinds) place bits
  -- each single inversion below the width of its word is found and undone
  pub single_is_undone : (kinds : List NumKind) (place i : ℕ) (bits : List Bool) → length bits ≡ length (slots kinds)
      → IsRight (slots kinds) bits → IsWithin (slots kinds) i place
      → mended_place (slots kinds) place (inverted i bits) ≡ Some bits
  -- two inversions, whether or not they are below the widths, are noticed
  pub double_is_noticed : (kinds : List NumKind) (place i j : ℕ) (bits : List Bool) → length bits ≡ length (slots kinds)
      → IsRight (slots kinds) bits → i < length bits → j < length bits → i ≢ j
      → mended_place (slots kinds) place (inverted j (inverted i bits)) ≡ None
