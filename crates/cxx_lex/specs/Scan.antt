-- What stands at the front of a text.
use Rattle.std.specs.Prelude.{ℕ, suc, ◌<◌, ◌≤◌, Bool, true, false, if◌then◌else◌, ◌==◌, List, [], ◌∷◌, drop, Option, Some, None, Result, Ok, Err}
use Rattle.agxx_base.specs.declared.kind.Mode.{Mode}
use Rattle.agxx_base.specs.declared.rule.Rule.{Rule}
use Rattle.agxx_base.specs.declared.rule.Rule.TheVariants.{L1, L2}
use Rattle.cxx_lex.specs.declared.strings.StringFault.{StringFault}
use Rattle.cxx_lex.specs.declared.strings.StringFault.TheVariants.{Unclosed, BadByte}
use Rattle.cxx_lex.specs.declared.tok.Lexeme.{Lexeme}
use Rattle.cxx_lex.specs.declared.tok.TokKind.{TokKind}
use Rattle.cxx_lex.specs.declared.front.Front.{Front}
use Rattle.cxx_lex.specs.declared.front.Front.TheVariants as front
use Rattle.cxx_lex.specs.Bytes.{is_blank, is_letter, is_digit, is_in_line}
use Rattle.cxx_lex.specs.Strings.{string_fault}
use Rattle.cxx_lex.specs.Tokens.{clashes}
use Rattle.cxx_lex.specs.Runs.{run, close_len}
use Rattle.cxx_lex.specs.WordScan.{word_lexeme}
use Rattle.cxx_lex.specs.NumberScan.{number_lexeme}
use Rattle.cxx_lex.specs.StringScan.{body_len, string_lexeme}
use Rattle.cxx_lex.specs.DirectiveScan.{directive_lexeme}
use Rattle.cxx_lex.specs.SignScan.{sign_lexeme}

-- the longest member of the sets that stands here
abbrev pub lexeme : Mode → List ℕ → Option Lexeme
lexeme mode [] = None
lexeme mode (b ∷ bs) =
    if is_letter b then Some (word_lexeme mode (b ∷ bs))
    else (if is_digit b then Some (number_lexeme (b ∷ bs))
    else (if b == 34 then string_lexeme bs
    else (if b == 35 then directive_lexeme bs else sign_lexeme (b ∷ bs))))

abbrev pub block_front : Option ℕ → Front
block_front None = front.Refused L2 0
block_front (Some n) = front.Gap (suc (suc n))

-- the comment that begins here
abbrev pub comment_front : List ℕ → Option Front
comment_front [] = None
comment_front (b ∷ []) = None
comment_front (b ∷ c ∷ cs) =
    if b == 47 then (if c == 47 then Some (front.Gap (suc (suc (run is_in_line cs)))) else (if c == 42 then Some (block_front (close_len cs)) else None)) else None

abbrev pub string_front : ℕ → Option StringFault → Front
string_front n None = front.Refused L1 0
string_front n (Some Unclosed) = front.Refused L2 0
string_front n (Some BadByte) = front.Refused L1 (suc n)

-- where no member of the sets stands
abbrev pub nothing_front : List ℕ → Front
nothing_front [] = front.Refused L1 0
nothing_front (b ∷ bs) = if b == 34 then string_front (body_len bs) (string_fault (drop (body_len bs) bs)) else front.Refused L1 0

abbrev pub token_front : TokKind → ℕ → Bool → Front
token_front token n true = front.Refused L1 n
token_front token n false = front.Token token n

abbrev pub verdict_front : List ℕ → ℕ → Result TokKind Rule → Front
verdict_front text n (Err rule) = front.Refused rule 0
verdict_front text n (Ok token) = token_front token n (clashes token (drop n text))

abbrev pub lexeme_front : List ℕ → Option Lexeme → Front
lexeme_front text None = nothing_front text
lexeme_front text (Some l) = verdict_front text l.len l.kind

abbrev pub comment_or : Mode → List ℕ → Option Front → Front
comment_or mode text (Some f) = f
comment_or mode text None = lexeme_front text (lexeme mode text)

-- what stands at the front of a text that isn't empty
unfoldable pub front_of : Mode → List ℕ → Front
front_of mode [] = front.Refused L1 0
front_of mode (b ∷ bs) = if is_blank b then front.Gap 1 else comment_or mode (b ∷ bs) (comment_front (b ∷ bs))

-- how many bytes of the text an answer speaks of
abbrev pub IsWithin : Front → ℕ → Type 0
IsWithin (front.Gap n) length = (0 < n) × (n ≤ length)
IsWithin (front.Token token n) length = n ≤ length
IsWithin (front.Refused rule n) length = n ≤ length
