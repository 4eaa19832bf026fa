-- The canonical text of a written program reads as the program.
use Rattle.std.specs.Prelude.{◌≡◌, ℕ, List}
use Rattle.agxx_base.specs.declared.fault.Refusal.{Refusal}
use Rattle.agxx_base.specs.declared.kind.Mode.{Mode}
use Rattle.agxx_base.specs.declared.place.Place.{Place}
use Rattle.agxx_base.specs.Names.{IsDistinct}
use Rattle.cxx_lex.specs.Tokens.{Token, HasTokens}
use Rattle.cxx_tree.specs.ProgramTree.{ProgramTree}
use Rattle.cxx_tree.specs.Same.{IsSame}
use Rattle.cxx_expr.specs.Tokens as grammar
use Rattle.cxx_parse.specs.Numbering.{with_special, names_of, dialect_in, words_in}
use Rattle.cxx_parse.specs.Parsed.{Fits, IsParsed, IsRefused, spelled}
use Rattle.cxx_print.specs.Programs.{text_of}
use Rattle.cxx_written.specs.Written.{IsWritten}

-- The text has tokens, they are the program's spelling, none of them is a new name, and what is read of them is the
-- program but for places and numbers of nodes.
pub record ReadsBack (mode : Mode) (file : ℕ) (names : List (List ℕ)) (q : ProgramTree) : Type 0 where
  pub tokens : List Token
  pub end : Place
  pub has_tokens : HasTokens mode file (text_of names q) tokens end
  pub spelling : grammar.words_of (words_in names tokens) ≡ spelled (dialect_in mode names) q
  pub no_new_name : names_of names tokens ≡ names
  pub read : (p : ProgramTree) → IsParsed mode (names_of names tokens) tokens end p → IsSame p q
  pub never_refused : (refusal : Refusal) → IsRefused mode (names_of names tokens) tokens end refusal → ⊥

-- for every program within the limits that is written, where the names that have a meaning have numbers
abbrev pub TextsReadBack : Type 0
TextsReadBack =
    (mode : Mode) (file : ℕ) (names : List (List ℕ)) (q : ProgramTree) → IsDistinct names → with_special names ≡ names
    → Fits (dialect_in mode names) q → IsWritten mode names q → ReadsBack mode file names q
