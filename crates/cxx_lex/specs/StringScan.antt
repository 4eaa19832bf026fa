-- The string at the front of a text, behind its quote.
use Rattle.std.specs.Prelude.{ℕ, suc, if◌then◌else◌, ◌==◌, List, [], ◌∷◌, drop, Option, Some, None, Ok}
use Rattle.cxx_lex.specs.declared.tok.Lexeme.{Lexeme}
use Rattle.cxx_lex.specs.declared.tok.TokKind.TheVariants as kind
use Rattle.cxx_lex.specs.Bytes.{is_plain, is_escape, begins_with}

abbrev mutual
  -- how many bytes of plain bytes and escapes there are
  pub body_len : List ℕ → ℕ
  body_len [] = 0
  body_len (b ∷ bs) = if b == 92 then escape_len bs else (if is_plain b then suc (body_len bs) else 0)

  -- the same from a backslash on, which `bs` stands behind
  pub escape_len : List ℕ → ℕ
  escape_len [] = 0
  escape_len (c ∷ cs) = if is_escape c then suc (suc (body_len cs)) else 0

unfoldable pub string_lexeme : List ℕ → Option Lexeme
string_lexeme text = if begins_with 34 (drop (body_len text) text) then Some (record { kind = Ok kind.Text; len = suc (suc (body_len text)) }) else None
