-- What a part of a document begins and ends with, and which parts are read as what they are where nothing stands between them.
use Rattle.std.specs.Prelude.{◌≡◌, ℕ, Bool, true, false, not, ◌||◌, ◌&&◌, ◌==◌, List, [], ◌∷◌, ◌++◌}
use Rattle.std.specs.List.{list_any}
use Rattle.agxx_base.specs.declared.vocabulary.Keyword.{Keyword}
use Rattle.agxx_base.specs.declared.vocabulary.Keyword.TheVariants as keyword_of
use Rattle.agxx_base.specs.declared.vocabulary.Sign.{Sign}
use Rattle.agxx_base.specs.declared.vocabulary.Sign.TheVariants as sign_of
use Rattle.agxx_base.specs.declared.vocabulary.SpecialName.{SpecialName}
use Rattle.agxx_base.specs.declared.vocabulary.SpecialName.TheVariants as special_name
use Rattle.agxx_base.specs.Vocabulary.{sign_text}
use Rattle.cxx_tree.specs.Words as w
use Rattle.cxx_tree.specs.Words.{Word}
use Rattle.cxx_print.specs.Document.{Part, word, special, blank, margin, newline}

-- letters and digits, a string in quotes, a sign, a line for the compiler, or blanks and ends of lines
pub data Shape : Type 0 where
  letters : Shape
  quotes : Shape
  sign : Sign → Shape
  directive : Shape
  space : Shape

abbrev pub word_shape : Word → Shape
word_shape (w.name id) = letters
word_shape (w.number value kind) = letters
word_shape (w.text bytes) = quotes
word_shape (w.keyword k) = letters
word_shape (w.sign s) = sign s
word_shape (w.include header) = directive
word_shape w.pragma = directive

abbrev pub shape : Part → Shape
shape (word it) = word_shape it
shape (special given) = letters
shape blank = space
shape margin = space
shape newline = space

abbrev pub all_signs : List Sign
all_signs =
    sign_of.OpenBrace ∷ sign_of.CloseBrace ∷ sign_of.OpenParen ∷ sign_of.CloseParen ∷ sign_of.Semicolon ∷ sign_of.Comma ∷ sign_of.Colon ∷ sign_of.ColonColon ∷ sign_of.Dot ∷ sign_of.Arrow ∷ sign_of.Ellipsis ∷ sign_of.Plus ∷ sign_of.Minus ∷ sign_of.Star ∷ sign_of.Slash ∷ sign_of.Percent ∷ sign_of.And ∷ sign_of.Or ∷ sign_of.Caret ∷ sign_of.Tilde ∷ sign_of.Not ∷ sign_of.Less ∷ sign_of.Greater ∷ sign_of.LessEqual ∷ sign_of.GreaterEqual ∷ sign_of.EqualEqual ∷ sign_of.NotEqual ∷ sign_of.AndAnd ∷ sign_of.OrOr ∷ sign_of.ShiftLeft ∷ sign_of.ShiftRight ∷ sign_of.Assign ∷ sign_of.PlusAssign ∷ sign_of.MinusAssign ∷ sign_of.StarAssign ∷ sign_of.SlashAssign ∷ sign_of.PercentAssign ∷ sign_of.PlusPlus ∷ sign_of.MinusMinus ∷ []

-- whether the second text goes on with a byte where the first ends
abbrev pub goes_on : List ℕ → ℕ → List ℕ → Bool
goes_on [] b [] = false
goes_on [] b (c ∷ cs) = b == c
goes_on (a ∷ more) b [] = false
goes_on (a ∷ more) b (c ∷ cs) = a == c && goes_on more b cs

-- whether some sign, or a comment, begins with a text and this byte
abbrev pub is_longer : List ℕ → ℕ → Bool
is_longer text b = list_any (λ s. goes_on text b (sign_text s)) all_signs || (goes_on text b (47 ∷ 47 ∷ []) || goes_on text b (47 ∷ 42 ∷ []))

abbrev pub is_longer_by : List ℕ → List ℕ → Bool
is_longer_by text [] = false
is_longer_by text (b ∷ bs) = is_longer text b

-- whether parts of these shapes are read as what they are where nothing stands between them
abbrev pub may_touch : Shape → Shape → Bool
may_touch letters letters = false
may_touch letters quotes = true
may_touch letters (sign s) = true
may_touch letters directive = false
may_touch letters space = true
may_touch quotes next = true
may_touch (sign s) letters = true
may_touch (sign s) quotes = true
may_touch (sign s) (sign next) = not (is_longer_by (sign_text s) (sign_text next))
may_touch (sign s) directive = false
may_touch (sign s) space = true
may_touch directive letters = false
may_touch directive quotes = false
may_touch directive (sign next) = false
may_touch directive directive = false
may_touch directive space = true
may_touch space next = true

-- a part has a text of its own, whatever the names are
abbrev pub is_spelled_word : Word → Bool
is_spelled_word (w.keyword keyword_of.Reserved) = false
is_spelled_word other = true

-- the names that have a meaning in programs; the others have one in aspects alone
abbrev pub is_in_programs : SpecialName → Bool
is_in_programs special_name.Std = true
is_in_programs special_name.Mutex = true
is_in_programs special_name.Thread = true
is_in_programs special_name.Cout = true
is_in_programs special_name.Endl = true
is_in_programs special_name.Abort = true
is_in_programs other = false

abbrev pub is_spelled : Part → Bool
is_spelled (word it) = is_spelled_word it
is_spelled (special given) = is_in_programs given
is_spelled other = true

abbrev pub Touches : Part → List Part → Type 0
Touches part [] = Unit {0}
Touches part (next ∷ rest) = may_touch (shape part) (shape next) ≡ true

-- each part has a text, and is read as what it is before the next
abbrev pub AreApart : List Part → Type 0
AreApart [] = Unit {0}
AreApart (first ∷ rest) = (is_spelled first ≡ true) × Touches first rest × AreApart rest
