-- What a step of the lexer tells.
use Rattle.std.specs.Prelude.{◌≡◌, ℕ, List, [], ◌++◌}
use Rattle.agxx_base.specs.declared.fault.Refusal.{Refusal}
use Rattle.agxx_base.specs.declared.place.Place.{Place}
use Rattle.cxx_lex.specs.declared.lexer.LexStep.{LexStep}
use Rattle.cxx_lex.specs.declared.lexer.LexStep.TheVariants as step
use Rattle.cxx_lex.specs.Left.{Left}
use Rattle.cxx_lex.specs.Place.{place_after}
use Rattle.cxx_lex.specs.Tokens.{Token, token_of, Reads, IsTokenAt, IsRefused}

-- Blanks and comments lead to the token, and new is left directly behind it.
pub record IsNext (old : Left) (t : Token) (new : Left) : Type 0 where
  pub gaps : Reads old.mode old.at old.text [] t.at (t.text ++ new.text)
  pub found : IsTokenAt old.mode t.kind t.text new.text
  pub at : new.at ≡ place_after t.at t.text
  pub mode : new.mode ≡ old.mode

-- Only blanks and comments are left, up to the end.
abbrev pub EndsAt : Left → Place → Type 0
EndsAt left end = Reads left.mode left.at left.text [] end []

-- Blanks, comments and no token lead to the first place where none stands.
abbrev pub RefusesAt : Left → Refusal → Type 0
RefusesAt left refusal = (at : Place) × (rest front : List ℕ) × Reads left.mode left.at left.text [] at rest × IsRefused left.mode rest refusal.rule front × (refusal.place ≡ place_after at front)

-- A token is passed. At the end, and where none stands, the lexer stays where it is, and so tells the same from then on.
abbrev pub Steps : Left → LexStep → Left → Type 0
Steps old (step.Token tok) new = IsNext old (token_of tok) new
Steps old (step.End end) new = EndsAt old end × (new ≡ old)
Steps old (step.Refused refusal) new = RefusesAt old refusal × (new ≡ old)
