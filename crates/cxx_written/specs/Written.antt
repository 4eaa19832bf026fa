-- What trees must be, besides being within the grammar, to have a text that reads as them.
use Rattle.std.specs.Prelude.{◌≡◌, ◌<◌, ◌^◌, ℕ, true, List, Some, Ok, slice_get}
use Rattle.std.specs.List.{list_all}
use Rattle.agxx_base.specs.declared.kind.Mode.{Mode}
use Rattle.agxx_base.specs.declared.kind.NumKind.{NumKind}
use Rattle.agxx_base.specs.declared.kind.NumKind.TheVariants as num
use Rattle.agxx_base.specs.declared.place.Place.{Place}
use Rattle.cxx_lex.specs.declared.tok.TokKind.TheVariants as kind
use Rattle.cxx_lex.specs.Strings.{is_character}
use Rattle.cxx_lex.specs.Tokens.{Token, HasTokens}
use Rattle.cxx_lex.specs.Words.{IsWord, word_verdict}
use Rattle.cxx_tree.specs.Limits.{Every}
use Rattle.cxx_tree.specs.ProgramTree.{ProgramTree}
use Rattle.cxx_tree.specs.Words as w
use Rattle.cxx_tree.specs.Words.{Word}
use Rattle.cxx_parse.specs.Numbering.{names_of, dialect_in}
use Rattle.cxx_parse.specs.Parsed.{IsParsed, spelled}

-- a text that is read as a name: a word that is no keyword, not too long, and not reserved
abbrev pub IsNameText : Mode → List ℕ → Type 0
IsNameText mode text = IsWord text × (word_verdict mode text ≡ Ok kind.Name)

-- a number that stands for such a text
abbrev pub IsName : Mode → List (List ℕ) → ℕ → Type 0
IsName mode names id = (text : List ℕ) × (slice_get names id ≡ Some text) × IsNameText mode text

-- the least number that no literal of the kind has; the others are no kinds of literals
abbrev pub literal_bound : NumKind → ℕ
literal_bound num.Bool = 0
literal_bound num.I8 = 0
literal_bound num.U8 = 0
literal_bound num.I16 = 0
literal_bound num.U16 = 0
literal_bound num.I32 = 2 ^ 31
literal_bound num.U32 = 2 ^ 32
literal_bound num.I64 = 2 ^ 63
literal_bound num.U64 = 2 ^ 64

-- a word that has a text which reads as it
abbrev pub IsWrittenWord : Mode → List (List ℕ) → Word → Type 0
IsWrittenWord mode names (w.name id) = IsName mode names id
IsWrittenWord mode names (w.number value kind) = value < literal_bound kind
IsWrittenWord mode names (w.text bytes) = list_all is_character bytes ≡ true
IsWrittenWord mode names (w.keyword k) = Unit {0}
IsWrittenWord mode names (w.sign s) = Unit {0}
IsWrittenWord mode names (w.include header) = Unit {0}
IsWrittenWord mode names w.pragma = Unit {0}

-- each word of the program's spelling is one, where its names are numbers of these texts
abbrev pub IsWritten : Mode → List (List ℕ) → ProgramTree → Type 0
IsWritten mode names q = Every (IsWrittenWord mode names) (spelled (dialect_in mode names) q)

-- what is read of a text's tokens is written
abbrev pub ParsedIsWritten : Type 0
ParsedIsWritten =
    (mode : Mode) (file : ℕ) (text : List ℕ) (names : List (List ℕ)) (ts : List Token) (end : Place) (q : ProgramTree)
    → HasTokens mode file text ts end → IsParsed mode (names_of names ts) ts end q → IsWritten mode (names_of names ts) q
