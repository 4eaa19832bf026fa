-- That the tokens of a text are a definition.
use Rattle.std.specs.Prelude.{◌≡◌, ◌↔◌, ◌≤◌, ◌^◌, ◌⊎◌, ℕ, List, Err}
use Rattle.agxx_base.specs.declared.fault.Refusal.{Refusal}
use Rattle.agxx_base.specs.declared.kind.Mode.{Mode}
use Rattle.agxx_base.specs.declared.place.Place.{Place}
use Rattle.cxx_lex.specs.declared.lexer.LexStep.{LexStep}
use Rattle.cxx_lex.specs.declared.lexer.LexStep.TheVariants as step
use Rattle.cxx_lex.specs.Left.{Left}
use Rattle.cxx_lex.specs.Steps.{Steps}
use Rattle.cxx_lex.specs.Tokens.{Token, token_of, HasTokens, RefusedAt}
use Rattle.agxx_base.specs.declared.rule.Rule.TheVariants.{L3}
use Rattle.cxx_lex.specs.declared.numbers.Base.{Base}
use Rattle.cxx_lex.specs.declared.numbers.Base.TheVariants.{Decimal, Hexadecimal}
use Rattle.cxx_lex.specs.declared.numbers.Suffix.{Suffix}
use Rattle.cxx_lex.specs.declared.numbers.Suffix.TheVariants as suffix
use Rattle.cxx_lex.specs.Numbers.{number_verdict}
use Rattle.cxx_lex.specs.Lexed.{lexed, tokens, refused}

abbrev pub HasOneReading : Type 0
HasOneReading = (mode : Mode) (file : ℕ) (text : List ℕ) (ts us : List Token) (end last : Place)
    → HasTokens mode file text ts end → HasTokens mode file text us last → (ts ≡ us) × (end ≡ last)

abbrev pub HasOneRefusal : Type 0
HasOneRefusal = (mode : Mode) (file : ℕ) (text : List ℕ) (first second : Refusal)
    → RefusedAt mode file text first → RefusedAt mode file text second → first ≡ second

abbrev pub IsNeverBoth : Type 0
IsNeverBoth = (mode : Mode) (file : ℕ) (text : List ℕ) (ts : List Token) (end : Place) (refusal : Refusal)
    → HasTokens mode file text ts end → RefusedAt mode file text refusal → ⊥

abbrev pub IsAlwaysOne : Type 0
IsAlwaysOne = (mode : Mode) (file : ℕ) (text : List ℕ)
    → ((ts : List Token) × (end : Place) × HasTokens mode file text ts end) ⊎ ((refusal : Refusal) × RefusedAt mode file text refusal)

-- the function and the relation agree
abbrev pub TellsTokens : Type 0
TellsTokens = (mode : Mode) (file : ℕ) (text : List ℕ) (ts : List Token) (end : Place) → (lexed mode file text ≡ tokens ts end) ↔ HasTokens mode file text ts end

abbrev pub TellsRefusals : Type 0
TellsRefusals = (mode : Mode) (file : ℕ) (text : List ℕ) (refusal : Refusal) → (lexed mode file text ≡ refused refusal) ↔ RefusedAt mode file text refusal

-- the least number that is too large: 2^63 for a decimal without `u`, else 2^64
abbrev pub number_bound : Base → Suffix → ℕ
number_bound Decimal suffix.Plain = 2 ^ 63
number_bound Decimal suffix.Ll = 2 ^ 63
number_bound Decimal suffix.U = 2 ^ 64
number_bound Decimal suffix.Ull = 2 ^ 64
number_bound Hexadecimal ending = 2 ^ 64

abbrev pub RefusesLargeNumbers : Type 0
RefusesLargeNumbers = (base : Base) (value : ℕ) (ending : Suffix) → (number_verdict base value ending ≡ Err L3) ↔ (number_bound base ending ≤ value)

-- two steps that tell the same, whatever memory their tokens' texts lie in
abbrev pub IsSameStep : LexStep → LexStep → Type 0
IsSameStep (step.Token t) (step.Token u) = token_of t ≡ token_of u
IsSameStep (step.End p) (step.End q) = p ≡ q
IsSameStep (step.Refused r) (step.Refused q) = r ≡ q
IsSameStep _ _ = ⊥

-- What is left decides what a lexer tells and what is left then. So one that ended or refused, which leaves it as it was,
-- tells the same again.
abbrev pub StepsInOneWay : Type 0
StepsInOneWay = (old : Left) (first second : LexStep) (new after : Left) → Steps old first new → Steps old second after → IsSameStep first second × (new ≡ after)
