-- Where the words of a part stand: members and check words have the positions from 1 on, each once.
use Rattle.std.specs.Prelude.{◌≡◌, ◌≢◌, ℕ, ◌+◌, ◌^◌, ◌<◌, ◌≤◌, List, length, map, Some, slice_get}
use Rattle.std.specs.Int.{IsPowerOfTwo}
use Rattle.agxx_base.specs.declared.kind.NumKind.{NumKind}
use Rattle.cxx_arith.specs.Kinds.{width}
use Rattle.hamming_gen.specs.Positions.{check_words, next_position}
use Rattle.hamming_gen.specs.HammingWords.{Slot, slots, all_kinds}

-- some word has this position
pub record HasPosition (part : List Slot) (p : ℕ) : Type 0 where
  pub number : ℕ
  pub slot : Slot
  pub slot_is : slice_get part number ≡ Some slot
  pub position : slot.position ≡ p

-- the least number above another that is no power of two
pub record IsNextOther (p next : ℕ) : Type 0 where
  pub above : p < next
  pub other : IsPowerOfTwo next → ⊥
  pub between : (n : ℕ) → p < n → n < next → IsPowerOfTwo n

-- of a part of k members
pub record PositionsAreAll : Type 0 where
  -- the number of check words is the least that is enough
  pub enough : (k : ℕ) → k + check_words k + 1 ≤ 2 ^ check_words k
  pub least : (k r : ℕ) → k + r + 1 ≤ 2 ^ r → check_words k ≤ r
  -- members go to the next position that is no power of two
  pub next : (p : ℕ) → 2 < p → IsNextOther p (next_position p)
  -- a word for each kind, of its width
  pub widths : (kinds : List NumKind) → map (λ (s : Slot). s.width) (slots kinds) ≡ map width (all_kinds kinds)
  -- the positions of two words differ
  pub differ : (kinds : List NumKind) (i j : ℕ) (s t : Slot) → slice_get (slots kinds) i ≡ Some s
      → slice_get (slots kinds) j ≡ Some t → i ≢ j → s.position ≢ t.position
  -- they are those from 0, which is the parity word's, to the number of the others
  pub within : (kinds : List NumKind) (i : ℕ) (s : Slot) → slice_get (slots kinds) i ≡ Some s
      → s.position ≤ length kinds + check_words (length kinds)
  pub each : (kinds : List NumKind) (p : ℕ) → p ≤ length kinds + check_words (length kinds) → HasPosition (slots kinds) p
