-- What is to be known of all words: members are kept, one inverted bit is repaired, and two at one bit place are noticed.
use Rattle.std.specs.Prelude.{◌≡◌, ◌≢◌, ◌↔◌, ℕ, ◌<◌, true, false, List, [], map, length, take, None}
use Rattle.agxx_base.specs.declared.kind.NumKind.{NumKind}
use Rattle.cxx_arith.specs.Kinds.{width}
use Rattle.codec.specs.Codes.{Code}
use Rattle.codec.specs.Copies.{IsFlipped}
use Rattle.codec_laws.specs.Values.{Fit, KeepsValues}
use Rattle.hamming_gen.specs.HammingWords.{slots, all_kinds, extra_words, place_bits, mended_place, encoded, repaired, repaired_place, beyond, IsDamage}
use Rattle.hamming_laws.specs.Places.{IsLost}

-- the code as far as its words go, with nothing generated
abbrev pub words_alone : Code
words_alone = record {
  encoded = encoded;
  repaired = repaired;
  beyond = beyond;
  IsDamage = IsDamage;
  extra_words = extra_words;
  kinds = all_kinds;
  extra_texts = λ class members. [];
  local_texts = λ k. [];
  members = λ names p. [];
  repair = λ names p. [];
  renew = λ names p. [];
}

-- of a part whose members have these unsigned kinds, and of words that fit
pub record WordsMend : Type 0 where
  pub keeps : KeepsValues words_alone
  -- words can't be repaired exactly where they can't at some place
  pub beyond_somewhere : (kinds : List NumKind) (words : List ℕ) → (beyond kinds words ≡ true)
      ↔ ((place : ℕ) × (place < 64) × (mended_place (slots kinds) place (place_bits place words) ≡ None))
  -- that is where some place is lost
  pub lost_somewhere : (kinds : List NumKind) (words : List ℕ) → Fit (all_kinds kinds) words
      → (beyond kinds words ≡ true) ↔ ((place : ℕ) × (place < 64) × IsLost (slots kinds) place (place_bits place words))
  -- the words that repair leaves fit, and have at each place the bits that repair leaves there
  pub repaired_fits : (kinds : List NumKind) (words : List ℕ) → Fit (all_kinds kinds) words
      → Fit (all_kinds kinds) (repaired kinds words)
  pub repaired_bits : (kinds : List NumKind) (words : List ℕ) (place : ℕ) → Fit (all_kinds kinds) words → place < 64
      → place_bits place (repaired kinds words) ≡ repaired_place kinds words place
  -- words that were repaired are what is encoded of their members, and are repaired again unchanged
  pub repaired_is_encoded : (kinds : List NumKind) (words : List ℕ) → Fit (all_kinds kinds) words
      → beyond kinds words ≡ false
      → repaired kinds words ≡ encoded kinds (take (length kinds) (repaired kinds words))
  pub repaired_stays : (kinds : List NumKind) (words : List ℕ) → Fit (all_kinds kinds) words
      → beyond kinds words ≡ false
      → (beyond kinds (repaired kinds words) ≡ false) × (repaired kinds (repaired kinds words) ≡ repaired kinds words)
  -- where at one bit place two words of what was encoded are inverted, that is beyond repair
  pub double_is_beyond : (kinds : List NumKind) (v once twice : List ℕ) → Fit kinds v
      → (first : IsFlipped (map width (all_kinds kinds)) (encoded kinds v) once)
      → (second : IsFlipped (map width (all_kinds kinds)) once twice) → first.bit ≡ second.bit
      → first.word ≢ second.word → beyond kinds twice ≡ true
