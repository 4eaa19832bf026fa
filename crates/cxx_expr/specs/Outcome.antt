-- What a parser answers. S is what it knows where it stands: the tokens that are left, and maybe more.
use Rattle.std.specs.Prelude.{◌≡◌, ◌≢◌, if◌then◌else◌, Result, Ok, Err}
use Rattle.agxx_base.specs.declared.vocabulary.Sign.{Sign}
use Rattle.cxx_expr.specs.declared.stop.Stop.{Stop}
use Rattle.cxx_expr.specs.declared.stop.Stop.TheVariants.{Syntax, Memory}
use Rattle.cxx_expr.specs.Tokens.{Tokens, sees, after}

-- a value and where the parser stands behind it, or why it stopped and where
pub data Outcome (S A : Type 0) : Type 0 where
  done : A → S → Outcome S A
  failed : Stop → S → Outcome S A

abbrev pub Parse : Type 0 → Type 0 → Type 0
Parse S A = S → Outcome S A

abbrev pub and_then : {S A B : Type 0} → Outcome S A → (A → Parse S B) → Outcome S B
and_then (done a rest) f = f a rest
and_then (failed why rest) f = failed why rest

abbrev pub expect : Sign → Parse Tokens (Unit {0})
expect s ts = if sees s ts then done tt (after ts) else failed Syntax ts

-- what a function of the code returned, seen by view, is the outcome, unless memory ran out
abbrev pub Reads : {S A T : Type 0} → (T → A) → Outcome S A → Result T Stop → S → Type 0
Reads view outcome (Ok t) left = outcome ≡ done (view t) left
Reads view outcome (Err why) left = why ≢ Memory → outcome ≡ failed why left
