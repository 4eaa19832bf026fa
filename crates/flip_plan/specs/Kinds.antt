-- What lines are, by their first words.
use Rattle.std.specs.Prelude.{ℕ, Bool, false, ◌==◌, if◌then◌else◌, List, [], ◌∷◌, codes}
use Rattle.std.specs.Str.{bytes_eq}
use Rattle.flip_plan.specs.declared.line.LineKind.{LineKind}
use Rattle.flip_plan.specs.declared.line.LineKind.TheVariants as kind
use Rattle.flip_plan.specs.Texts.{Word, Line}

abbrev pub kind_of_word : List ℕ → LineKind
kind_of_word text =
    if bytes_eq text (codes "limit") then kind.Limit
    else (if bytes_eq text (codes "turns") then kind.Turns
    else (if bytes_eq text (codes "cycle") then kind.Cycle
    else (if bytes_eq text (codes "flip") then kind.Flip
    else (if bytes_eq text (codes "free") then kind.Free else kind.Unknown))))

abbrev pub is_comment : List ℕ → Bool
is_comment [] = false
is_comment (b ∷ bs) = b == 35

-- a line without words, or whose first word begins with `#`, is passed over
abbrev pub kind_of_words : List Word → LineKind
kind_of_words [] = kind.Passed
kind_of_words (word ∷ words) = if is_comment word.text then kind.Passed else kind_of_word word.text

abbrev pub kind_of : Line → LineKind
kind_of line = kind_of_words line.words

-- the kind whose rules a line has: a `free` line has those of a `flip` line
abbrev pub ruled_as : LineKind → LineKind
ruled_as kind.Free = kind.Flip
ruled_as k = k

-- the column of the first word
abbrev pub first_column : List Word → ℕ
first_column [] = 1
first_column (word ∷ words) = word.column

-- the words behind the first
abbrev pub behind : List Word → List Word
behind [] = []
behind (word ∷ words) = words
