-- The sets of texts of which a token is the longest member at its place.
use Rattle.std.specs.Prelude.{◌≡◌, ◌≤◌, ℕ, false, List, ◌++◌, length, Result, Ok}
use Rattle.agxx_base.specs.declared.kind.Mode.{Mode}
use Rattle.agxx_base.specs.declared.rule.Rule.{Rule}
use Rattle.agxx_base.specs.declared.vocabulary.Sign.{Sign}
use Rattle.agxx_base.specs.Vocabulary.{sign_text}
use Rattle.cxx_lex.specs.declared.tok.TokKind.{TokKind}
use Rattle.cxx_lex.specs.declared.tok.TokKind.TheVariants as kind
use Rattle.cxx_lex.specs.declared.numbers.Base.{Base}
use Rattle.cxx_lex.specs.declared.numbers.Suffix.{Suffix}
use Rattle.cxx_lex.specs.Bytes.{begins_comment}
use Rattle.cxx_lex.specs.Words.{IsWord, word_verdict}
use Rattle.cxx_lex.specs.Numbers.{IsNumber, number_verdict}
use Rattle.cxx_lex.specs.Strings.{IsString}
use Rattle.cxx_lex.specs.Directives.{IsDirective}

-- The text is a member of a set, and this is the kind of its token, or the rule that it violates.
pub data IsLexeme (mode : Mode) (verdict : Result TokKind Rule) (text : List ℕ) : Type 0 where
  word : IsWord text → verdict ≡ word_verdict mode text → IsLexeme mode verdict text
  number : (base : Base) (value : ℕ) (ending : Suffix) → IsNumber base value ending text → verdict ≡ number_verdict base value ending → IsLexeme mode verdict text
  literal : (value : List ℕ) → IsString value text → verdict ≡ Ok kind.Text → IsLexeme mode verdict text
  directive : (token : TokKind) → IsDirective token text → verdict ≡ Ok token → IsLexeme mode verdict text
  sign : (s : Sign) → text ≡ sign_text s → verdict ≡ Ok (kind.Sign s) → IsLexeme mode verdict text

-- No comment begins here, and no longer member does; this rest stands behind it.
pub record IsLongest (mode : Mode) (verdict : Result TokKind Rule) (text rest : List ℕ) : Type 0 where
  pub no_comment : begins_comment (text ++ rest) ≡ false
  pub lexeme : IsLexeme mode verdict text
  pub longest : (other : Result TokKind Rule) (front behind : List ℕ) → IsLexeme mode other front → text ++ rest ≡ front ++ behind → length front ≤ length text
