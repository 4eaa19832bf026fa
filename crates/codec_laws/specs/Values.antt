-- What a code has to keep: members that are encoded are read as they were, and damage is repaired.
use Rattle.std.specs.Prelude.{◌≡◌, ℕ, ◌+◌, ◌^◌, ◌<◌, false, List, [], ◌∷◌, map, length, replicate, take, slice_set}
use Rattle.std.specs.Int.{bit_at}
use Rattle.agxx_base.specs.declared.kind.NumKind.{NumKind}
use Rattle.cxx_arith.specs.Kinds.{width}
use Rattle.codec.specs.Codes.{Code}
use Rattle.codec.specs.Copies.{majority, IsFlipped, copies}

-- a word for each kind, below 2 to its width
abbrev pub Fit : List NumKind → List ℕ → Type 0
Fit [] [] = Unit {0}
Fit (k ∷ kinds) (w ∷ words) = (w < 2 ^ width k) × Fit kinds words
Fit kinds words = ⊥

-- of a code, over the unsigned kinds of the members
pub record KeepsValues (code : Code) : Type 0 where
  -- how many words there are, with those that are added, and that the members' stand first
  pub kinds_length : (kinds : List NumKind) → length (code.kinds kinds) ≡ length kinds + code.extra_words (length kinds)
  pub kinds_first : (kinds : List NumKind) → take (length kinds) (code.kinds kinds) ≡ kinds
  pub words_fit : (kinds : List NumKind) (v : List ℕ) → Fit kinds v → Fit (code.kinds kinds) (code.encoded kinds v)
  pub members_first : (kinds : List NumKind) (v : List ℕ) → Fit kinds v → take (length kinds) (code.encoded kinds v) ≡ v
  -- an object is made of zeros
  pub zeros : (kinds : List NumKind) → code.encoded kinds (replicate (length kinds) 0)
      ≡ replicate (length (code.kinds kinds)) 0
  -- what is damage: nothing, and each single flip
  pub none : (kinds : List NumKind) (words : List ℕ) → code.IsDamage kinds words words
  pub single : (kinds : List NumKind) (words after : List ℕ) → IsFlipped (map width (code.kinds kinds)) words after
      → code.IsDamage kinds words after
  -- damage is repaired
  pub repairs : (kinds : List NumKind) (v words : List ℕ) → Fit kinds v
      → code.IsDamage kinds (code.encoded kinds v) words
      → (code.beyond kinds words ≡ false) × (code.repaired kinds words ≡ code.encoded kinds v)

-- each bit is what at least two of the three numbers have there
pub record MajorityIsOfBits : Type 0 where
  pub first_two : (a b c i : ℕ) → bit_at a i ≡ bit_at b i → bit_at (majority a b c) i ≡ bit_at a i
  pub outer_two : (a b c i : ℕ) → bit_at a i ≡ bit_at c i → bit_at (majority a b c) i ≡ bit_at a i
  pub last_two : (a b c i : ℕ) → bit_at b i ≡ bit_at c i → bit_at (majority a b c) i ≡ bit_at b i

pub record CopiesKeepValues : Type 0 where
  pub keeps : KeepsValues copies
  pub majority : MajorityIsOfBits
  -- whatever the numbers: one word of any, wherever, that has another value is repaired
  pub any_word : (kinds : List NumKind) (v : List ℕ) (i bits : ℕ) → length v ≡ length kinds
      → copies.repaired kinds (slice_set (copies.encoded kinds v) i bits) ≡ copies.encoded kinds v
