-- The longest sign at the front of a text.
use Rattle.std.specs.Prelude.{ℕ, List, [], ◌∷◌, map, Option, Some, None, Ok}
use Rattle.agxx_base.specs.declared.vocabulary.Sign.{Sign}
use Rattle.agxx_base.specs.declared.vocabulary.Sign.TheVariants as sign
use Rattle.agxx_base.specs.Vocabulary.{sign_text}
use Rattle.cxx_lex.specs.declared.tok.Lexeme.{Lexeme}
use Rattle.cxx_lex.specs.declared.tok.TokKind.TheVariants as kind
use Rattle.cxx_lex.specs.Words.{entry_of}

abbrev pub signs : List (List ℕ × Sign)
signs = map (λ s. (sign_text s, s)) (sign.OpenBrace ∷ sign.CloseBrace ∷ sign.OpenParen ∷ sign.CloseParen ∷ sign.Semicolon ∷ sign.Comma ∷ sign.Colon ∷ sign.ColonColon ∷ sign.Dot ∷ sign.Arrow ∷ sign.Ellipsis ∷ sign.Plus ∷ sign.Minus ∷ sign.Star ∷ sign.Slash ∷ sign.Percent ∷ sign.And ∷ sign.Or ∷ sign.Caret ∷ sign.Tilde ∷ sign.Not ∷ sign.Less ∷ sign.Greater ∷ sign.LessEqual ∷ sign.GreaterEqual ∷ sign.EqualEqual ∷ sign.NotEqual ∷ sign.AndAnd ∷ sign.OrOr ∷ sign.ShiftLeft ∷ sign.ShiftRight ∷ sign.Assign ∷ sign.PlusAssign ∷ sign.MinusAssign ∷ sign.StarAssign ∷ sign.SlashAssign ∷ sign.PercentAssign ∷ sign.PlusPlus ∷ sign.MinusMinus ∷ [])

unfoldable pub one : ℕ → Option Sign
one b = entry_of signs (b ∷ [])

unfoldable pub two : ℕ → ℕ → Option Sign
two b c = entry_of signs (b ∷ c ∷ [])

unfoldable pub three : ℕ → ℕ → ℕ → Option Sign
three b c d = entry_of signs (b ∷ c ∷ d ∷ [])

-- a sign of n bytes, else another answer
abbrev pub sign_or : ℕ → Option Sign → Option Lexeme → Option Lexeme
sign_or n None other = other
sign_or n (Some s) other = Some (record { kind = Ok (kind.Sign s); len = n })

unfoldable pub sign_lexeme : List ℕ → Option Lexeme
sign_lexeme [] = None
sign_lexeme (b ∷ []) = sign_or 1 (one b) None
sign_lexeme (b ∷ c ∷ []) = sign_or 2 (two b c) (sign_or 1 (one b) None)
sign_lexeme (b ∷ c ∷ d ∷ ds) = sign_or 3 (three b c d) (sign_or 2 (two b c) (sign_or 1 (one b) None))
