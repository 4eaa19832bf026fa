-- Calls that are counted, some of which are to fail.
use Rattle.std.specs.Prelude.{ℕ, ◌+◌, ◌-◌, ◌^◌, min, Bool, List, [], ◌∷◌, ◌++◌, ◌==◌}
use Rattle.std.specs.List.{list_any}

-- one more, up to the counter's last value
abbrev pub counted : ℕ → ℕ
counted n = min (n + 1) (2 ^ 64 - 1)

-- how many calls were made, and the numbers of those that fail
pub record CallsState : Type 0 where
  pub made : ℕ
  pub failing : List ℕ

-- the next call fails exactly where its number is listed
abbrev pub fails : CallsState → Bool
fails calls = list_any (λ number. number == counted calls.made) calls.failing

abbrev pub after_call : CallsState → CallsState
after_call calls = record calls { made = counted calls.made }

-- no call was made, and none is to fail
abbrev pub no_calls : CallsState
no_calls = record { made = 0; failing = [] }

-- one more call is to fail
abbrev pub failing_at : CallsState → ℕ → CallsState
failing_at calls call = record calls { failing = calls.failing ++ call ∷ [] }
