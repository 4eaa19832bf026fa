-- The first violation, as a program is gone through: each definition gives the first of what is found and the violations
-- in a part.
use Rattle.std.specs.Prelude.{List, [], ◌∷◌, Option, Some, None}
use Rattle.agxx_base.specs.Refusals.{nearer}
use Rattle.agxx_base.specs.declared.fault.Refusal.{Refusal}
use Rattle.agxx_base.specs.declared.place.Place.{Place}
use Rattle.agxx_base.specs.declared.rule.Rule.{Rule}

abbrev pub with_violation : Rule → Place → Option Refusal → Option Refusal
with_violation rule at found = nearer found (record { rule = rule; place = at })

-- of a rule at these places
abbrev pub nearest : Rule → Option Refusal → List Place → Option Refusal
nearest rule found [] = found
nearest rule found (at ∷ ats) = nearest rule (with_violation rule at found) ats

-- in parts that follow each other
abbrev pub through_each : {A : Type 0} → (A → Option Refusal → Option Refusal) → List A → Option Refusal → Option Refusal
through_each through [] found = found
through_each through (x ∷ xs) found = through_each through xs (through x found)

-- in a part that may be missing
abbrev pub through_optional : {A : Type 0} → (A → Option Refusal → Option Refusal) → Option A → Option Refusal → Option Refusal
through_optional through None found = found
through_optional through (Some x) found = through x found
