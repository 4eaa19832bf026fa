-- Where a parser stands within a full expression.
use Rattle.std.specs.Prelude.{ℕ, zero, suc}
use Rattle.cxx_expr.specs.declared.stop.Stop.TheVariants.{Deep}
use Rattle.cxx_expr.specs.Tokens.{Tokens, after}
use Rattle.cxx_expr.specs.Outcome.{Outcome, done, failed, Parse}

pub record Within : Type 0 where
  pub words : Tokens
  -- how many more operators the full expression may have
  pub operators : ℕ

abbrev pub with_operators : {A : Type 0} → ℕ → Outcome Tokens A → Outcome Within A
with_operators n (done a ts) = done a (record { words = ts; operators = n })
with_operators n (failed why ts) = failed why (record { words = ts; operators = n })

-- a rule without operators
abbrev pub on_words : {A : Type 0} → Parse Tokens A → Parse Within A
on_words p s = with_operators s.operators (p s.words)

abbrev pub advanced : Within → Within
advanced s = record { words = after s.words; operators = s.operators }

abbrev pub operator_taken_by : ℕ → Tokens → Outcome Within (Unit {0})
operator_taken_by zero ts = failed Deep (record { words = ts; operators = zero })
operator_taken_by (suc n) ts = done tt (record { words = after ts; operators = n })

-- past an operator, if there may be one more
abbrev pub operator_taken : Parse Within (Unit {0})
operator_taken s = operator_taken_by s.operators s.words

abbrev pub words_left : {A : Type 0} → Outcome Within A → Outcome Tokens A
words_left (done a s) = done a s.words
words_left (failed why s) = failed why s.words

-- the parser of a full expression, which may have this many operators
abbrev pub full : {A : Type 0} → ℕ → Parse Within A → Parse Tokens A
full n p ts = words_left (p (record { words = ts; operators = n }))
