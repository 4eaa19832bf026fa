-- Documents: the words of a text in order, and what stands between them.
use Rattle.std.specs.Prelude.{ℕ, zero, suc, min, ◌+◌, ◌-◌, ◌^◌, List, [], ◌∷◌}
use Rattle.agxx_base.specs.declared.vocabulary.SpecialName.{SpecialName}
use Rattle.cxx_tree.specs.Words.{Word}

-- a word, a name that has a meaning at its place, a blank, the margin of one level, or the end of a line
pub data Part : Type 0 where
  word : Word → Part
  special : SpecialName → Part
  blank : Part
  margin : Part
  newline : Part

-- nothing, a part alone, or a document and another behind it
infixr 30 ◌⨾◌
pub data Document : Type 0 where
  nothing : Document
  one : Part → Document
  ◌⨾◌ : Document → Document → Document

-- the parts of a document, before others
abbrev pub parts_before : Document → List Part → List Part
parts_before nothing rest = rest
parts_before (one part) rest = part ∷ rest
parts_before (first ⨾ second) rest = parts_before first (parts_before second rest)

abbrev pub parts_of : Document → List Part
parts_of d = parts_before d []

-- one level deeper; no program has levels up to the last that is counted
abbrev pub deeper : ℕ → ℕ
deeper level = min (level + 1) (2 ^ 32 - 1)

-- the margin of a line at a level
abbrev pub indented : ℕ → Document
indented zero = nothing
indented (suc level) = one margin ⨾ indented level

-- a line at a level
abbrev pub line : ℕ → Document → Document
line level content = indented level ⨾ content ⨾ one newline
