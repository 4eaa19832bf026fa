-- The words of documents.
use Rattle.std.proofs.Common.{◌≡◌, ℕ, zero, suc, List, [], ◌++◌, Option, Some, None, refl, sym, ap, ◌∙◌, append_assoc, append-nil}
use Rattle.agxx_base.specs.declared.vocabulary.SpecialName.{SpecialName}
use Rattle.cxx_tree.specs.Words as w
use Rattle.cxx_tree.specs.Words.{Word}
use Rattle.cxx_print.specs.Document.{Part, Document, nothing, one, ◌⨾◌, parts_before, indented, line}
use Rattle.cxx_print.specs.Statements as f
use Rattle.print_laws.specs.Spelled.{part_words, words_of}

-- the words of a document, by its form
abbrev pub words : (SpecialName → ℕ) → Document → List Word
words number nothing = []
words number (one part) = part_words number part
words number (first ⨾ second) = words number first ++ words number second

-- they are those of its parts
pub words-before : (number : SpecialName → ℕ) (d : Document) (rest : List Part)
    → words_of number (parts_before d rest) ≡ words number d ++ words_of number rest
words-before number nothing rest = refl
words-before number (one part) rest = refl
words-before number (first ⨾ second) rest =
    words-before number first (parts_before second rest)
    ∙ ap (λ z. words number first ++ z) (words-before number second rest)
    ∙ sym (append_assoc (words number first) (words number second) (words_of number rest))

-- a margin has none
pub words-indented : (number : SpecialName → ℕ) (level : ℕ) → words number (indented level) ≡ []
words-indented number zero = refl
words-indented number (suc level) = words-indented number level

pub words-line : (number : SpecialName → ℕ) (level : ℕ) (d : Document) → words number (line level d) ≡ words number d
words-line number level d = rw (words-indented number level) (append-nil (words number d))

-- a part that may be missing
pub words-optional : {A : Type 0} (number : SpecialName → ℕ) (form : A → Document) (spell : A → List Word)
    → ((x : A) → words number (form x) ≡ spell x) → (x : Option A) → words number (f.optional form x) ≡ w.optional spell x
words-optional number form spell is None = refl
words-optional number form spell is (Some x) = is x
