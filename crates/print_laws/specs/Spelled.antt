-- The words of a program's canonical text are its tokens.
use Rattle.std.specs.Prelude.{◌≡◌, ℕ, List, [], ◌∷◌}
use Rattle.std.specs.List.{flat_map}
use Rattle.agxx_base.specs.declared.vocabulary.SpecialName.{SpecialName}
use Rattle.cxx_tree.specs.Words.{Word, name}
use Rattle.cxx_tree.specs.ProgramTree.{ProgramTree}
use Rattle.cxx_tree.specs.Spelling.{spell_program}
use Rattle.cxx_print.specs.Document.{Part, word, special, blank, margin, newline}
use Rattle.cxx_print.specs.Programs.{printed_program}

-- the word that a part is, if it is one, where these are the numbers of the names that have a meaning at their place
abbrev pub part_words : (SpecialName → ℕ) → Part → List Word
part_words number (word it) = it ∷ []
part_words number (special what) = name (number what) ∷ []
part_words number blank = []
part_words number margin = []
part_words number newline = []

abbrev pub words_of : (SpecialName → ℕ) → List Part → List Word
words_of number parts = flat_map (part_words number) parts

abbrev pub TextsAreSpelled : Type 0
TextsAreSpelled = (number : SpecialName → ℕ) (q : ProgramTree) → words_of number (printed_program q) ≡ spell_program number q
