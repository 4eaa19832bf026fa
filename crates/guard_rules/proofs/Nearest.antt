-- The first of what is found and violations of a rule.
use Rattle.std.proofs.Common.{◌≡◌, refl, sym, ap, ◌∙◌, List, [], ◌∷◌, ◌++◌, Option}
use Rattle.agxx_base.specs.declared.fault.Refusal.{Refusal}
use Rattle.agxx_base.specs.declared.place.Place.{Place}
use Rattle.agxx_base.specs.declared.rule.Rule.{Rule}
use Rattle.agxx_base.specs.Refusals.{least_from}
use Rattle.guard_rules.specs.Parts.{in_each}
use Rattle.guard_rules.specs.Nearest.{with_violation, nearest, through_each}
use Rattle.guard_rules.specs.Violations.{refusals}

pub nearest_append : (rule : Rule) (found : Option Refusal) (a b : List Place) → nearest rule found (a ++ b) ≡ nearest rule (nearest rule found a) b
nearest_append rule found [] b = refl
nearest_append rule found (at ∷ a) b = nearest_append rule (with_violation rule at found) a b

-- it is the first of all in a list
pub nearest_least : (rule : Rule) (found : Option Refusal) (ats : List Place) → least_from found (refusals rule ats) ≡ nearest rule found ats
nearest_least rule found [] = refl
nearest_least rule found (at ∷ ats) = nearest_least rule (with_violation rule at found) ats

-- one part behind another
pub one_by_one : (rule : Rule) (found first last : Option Refusal) (a b : List Place) → first ≡ nearest rule found a → last ≡ nearest rule first b → last ≡ nearest rule found (a ++ b)
one_by_one rule found first last a b here there = there ∙ (ap (λ o. nearest rule o b) here ∙ sym (nearest_append rule found a b))

pub each_nearest : {A : Type 0} (rule : Rule) (through : A → Option Refusal → Option Refusal) (places : A → List Place)
    → ((x : A) (found : Option Refusal) → through x found ≡ nearest rule found (places x))
    → (xs : List A) (found : Option Refusal) → through_each through xs found ≡ nearest rule found (in_each places xs)
each_nearest rule through places each [] found = refl
each_nearest rule through places each (x ∷ xs) found =
    one_by_one rule found (through x found) _ (places x) (in_each places xs) (each x found) (each_nearest rule through places each xs (through x found))
