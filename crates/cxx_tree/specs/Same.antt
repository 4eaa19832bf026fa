-- Equality of programs but for places and numbers of nodes.
use Rattle.std.specs.Prelude.{◌≡◌, ℕ}
use Rattle.agxx_base.specs.declared.vocabulary.SpecialName.{SpecialName}
use Rattle.cxx_tree.specs.ProgramTree.{ProgramTree}
use Rattle.cxx_tree.specs.Blank.{blank_program}
use Rattle.cxx_tree.specs.Spelling.{spell_program}

abbrev pub IsSame : ProgramTree → ProgramTree → Type 0
IsSame a b = blank_program a ≡ blank_program b

-- it is an equivalence
pub record SameIsEquivalence : Type 0 where
  pub reflexive : (a : ProgramTree) → IsSame a a
  pub symmetric : (a b : ProgramTree) → IsSame a b → IsSame b a
  pub transitive : (a b c : ProgramTree) → IsSame a b → IsSame b c → IsSame a c

-- programs that are the same are spelled alike, so that equality but for places and numbers of nodes loses no token
abbrev pub SameIsSpelledAlike : Type 0
SameIsSpelledAlike =
    (special : SpecialName → ℕ) (a b : ProgramTree) → IsSame a b → spell_program special a ≡ spell_program special b
