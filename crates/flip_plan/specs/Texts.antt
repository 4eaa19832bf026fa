-- The lines of a text and their words.
use Rattle.std.specs.Prelude.{ℕ, ◌+◌, Bool, ◌||◌, ◌==◌, List, [], ◌∷◌, length}
use Rattle.std.specs.List.{slice_split}
use Rattle.flip_plan.specs.declared.pieces.Separator.{Separator}
use Rattle.flip_plan.specs.declared.pieces.Separator.TheVariants as separator

-- a word, and the column of its first byte, counted in bytes from 1
pub record Word : Type 0 where
  pub column : ℕ
  pub text : List ℕ

-- the line of a number, counted from 1: its words, and the column behind its last byte
pub record Line : Type 0 where
  pub file : ℕ
  pub number : ℕ
  pub words : List Word
  pub end : ℕ

-- a blank that doesn't end its line: space, tab, form feed, CR
abbrev pub is_blank : ℕ → Bool
is_blank b = b == 32 || b == 9 || b == 12 || b == 13

abbrev pub separates : Separator → ℕ → Bool
separates separator.Newline b = b == 10
separates separator.Blank b = is_blank b
separates separator.Star b = b == 42

-- the parts of a text between the bytes that separate
abbrev pub parts : Separator → List ℕ → List (List ℕ)
parts s text = slice_split (separates s) text

-- a part that isn't empty is a word
abbrev pub with_word : ℕ → List ℕ → List Word → List Word
with_word column [] words = words
with_word column (b ∷ bs) words = (record { column = column; text = b ∷ bs }) ∷ words

-- the words among parts of a line, the first of which begins in this column
abbrev pub words_from : ℕ → List (List ℕ) → List Word
words_from column [] = []
words_from column (part ∷ rest) = with_word column part (words_from (column + length part + 1) rest)

abbrev pub words_of : List ℕ → List Word
words_of text = words_from 1 (parts separator.Blank text)

abbrev pub line_at : ℕ → ℕ → List ℕ → Line
line_at file number text = record { file = file; number = number; words = words_of text; end = length text + 1 }

abbrev pub lines_from : ℕ → ℕ → List (List ℕ) → List Line
lines_from file number [] = []
lines_from file number (text ∷ texts) = line_at file number text ∷ lines_from file (number + 1) texts

abbrev pub lines_of : ℕ → List ℕ → List Line
lines_of file text = lines_from file 1 (parts separator.Newline text)

-- how many bytes parts take, each with the byte behind it
abbrev pub span : List (List ℕ) → ℕ
span [] = 0
span (part ∷ rest) = length part + 1 + span rest
