-- Which rules a program violates, and where, and the violation that is told.
use Rattle.std.specs.Prelude.{ℕ, List, [], ◌∷◌, ◌++◌, Option, Some, None}
use Rattle.agxx_base.specs.Refusals.{least}
use Rattle.agxx_base.specs.declared.fault.Refusal.{Refusal}
use Rattle.agxx_base.specs.declared.kind.Mode.{Mode}
use Rattle.agxx_base.specs.declared.place.Place.{Place}
use Rattle.agxx_base.specs.declared.rule.Rule.TheVariants as rule
use Rattle.cxx_tree.specs.ProgramTree.{ProgramTree}
use Rattle.cxx_distinct.specs.Sights.{name_past}
use Rattle.cxx_types.specs.State.{State}
use Rattle.cxx_types.specs.Counts.{most}
use Rattle.cxx_types.specs.Programs.{checked}

abbrev pub one_at : Option Place → List Refusal
one_at None = []
one_at (Some at) = (record { rule = rule.N10; place = at }) ∷ []

-- the first name past the limit of distinct names
abbrev pub too_many_names : Mode → ProgramTree → List Refusal
too_many_names mode q = one_at (name_past (most mode).names q)

-- all violations of a program that is read so, where names have these texts
abbrev pub violations_of : List (List ℕ) → Mode → ProgramTree → List Refusal
violations_of names mode q = (checked names mode q).found ++ too_many_names mode q

-- what is told of a program, if it violates a rule: the first of its violations, by place and at one place by rule
abbrev pub refusal_of : List (List ℕ) → Mode → ProgramTree → Option Refusal
refusal_of names mode q = least (violations_of names mode q)
