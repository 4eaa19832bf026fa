-- What is written of a program's text.
use Rattle.std.specs.Prelude.{◌≡◌, ℕ, List, [], Option}
use Rattle.agxx_base.specs.Sink.{appended}
use Rattle.agxx_base.specs.declared.kind.Mode.TheVariants as mode
use Rattle.agxx_base.specs.declared.place.Place.{Place}
use Rattle.cxx_lex.specs.Tokens.{Token, HasTokens}
use Rattle.cxx_tree.specs.ProgramTree.{ProgramTree}
use Rattle.cxx_parse.specs.Numbering.{names_of}
use Rattle.cxx_parse.specs.Parsed.{IsParsed, IsReadAs}
use Rattle.cxx_normal.specs.Normal.{with_main, normal_among}
use Rattle.cxx_print.specs.Programs.{text_of}
use Rattle.agxx_text.specs.declared.form.Form.{Form}
use Rattle.agxx_text.specs.declared.form.Form.TheVariants as form

-- the text is that of a woven program, whose names these are
pub record IsRead (text : List ℕ) (names : List (List ℕ)) (q : ProgramTree) : Type 0 where
  pub tokens : List Token
  pub end : Place
  pub lexed : HasTokens mode.Woven 0 text tokens end
  pub named : names ≡ names_of [] tokens
  pub parsed : IsParsed mode.Woven names tokens end q
  pub read : IsReadAs mode.Woven names tokens end q

-- the canonical text of a program as it was read, or of its normal form
abbrev pub text_in : Form → List (List ℕ) → ProgramTree → List ℕ
text_in form.Parsed names q = text_of names q
text_in form.Normal names q = text_of (with_main names) (normal_among (with_main names) q)

-- the canonical text of the program of a text was written to a sink
pub record IsPrinted (f : Form) (text : List ℕ) (before after : Option (List ℕ)) : Type 0 where
  pub names : List (List ℕ)
  pub program : ProgramTree
  pub read : IsRead text names program
  pub written : after ≡ appended before (text_in f names program)
