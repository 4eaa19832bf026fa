-- For each rule the places at which a program violates it, each rule by itself: what a rule says of each form that stands
-- in a program is in a file of its own.
use Rattle.std.specs.Prelude.{ℕ, ◌≡◌, Bool, false, not, nat_eq, nat_lt, List, [], map, if◌then◌else◌}
use Rattle.std.specs.List.{filter}
use Rattle.agxx_base.specs.Refusals.{rank}
use Rattle.agxx_base.specs.declared.fault.Refusal.{Refusal}
use Rattle.agxx_base.specs.declared.kind.Mode.{Mode}
use Rattle.agxx_base.specs.declared.place.Place.{Place}
use Rattle.agxx_base.specs.declared.rule.Rule.{Rule}
use Rattle.agxx_base.specs.declared.rule.Rule.TheVariants as rule
use Rattle.cxx_tree.specs.ProgramTree.{ProgramTree}
use Rattle.cxx_types.specs.Counts.{most}
use Rattle.cxx_types.specs.Violations.{violations_of}
use Rattle.cxx_rules.specs.ProgramForms.{forms_of_program}
use Rattle.cxx_rules.specs.Unless.{places_in}
use Rattle.cxx_rules.specs.UnknownName.{unknown_name_at}
use Rattle.cxx_rules.specs.DeclaredTwice.{declared_twice_at}
use Rattle.cxx_rules.specs.TypesDisagree.{types_disagree_at}
use Rattle.cxx_rules.specs.WrongNumberOfArguments.{wrong_number_of_arguments_at}
use Rattle.cxx_rules.specs.BaseNotDeclaredBefore.{base_not_declared_before_at}
use Rattle.cxx_rules.specs.NotAccessible.{not_accessible_at}
use Rattle.cxx_rules.specs.AddressOfNoGlobalObject.{address_of_no_global_object_at}
use Rattle.cxx_rules.specs.NotAllowedHere.{not_allowed_here_at}
use Rattle.cxx_rules.specs.NoMain.{no_main_at}
use Rattle.cxx_rules.specs.TooMany.{too_many_at}

-- N1
abbrev pub unknown_name : List (List ℕ) → ProgramTree → List Place
unknown_name names q = places_in unknown_name_at (forms_of_program names q)

-- N2
abbrev pub declared_twice : List (List ℕ) → ProgramTree → List Place
declared_twice names q = places_in declared_twice_at (forms_of_program names q)

-- N3
abbrev pub types_disagree : List (List ℕ) → ProgramTree → List Place
types_disagree names q = places_in types_disagree_at (forms_of_program names q)

-- N4
abbrev pub wrong_number_of_arguments : List (List ℕ) → ProgramTree → List Place
wrong_number_of_arguments names q = places_in wrong_number_of_arguments_at (forms_of_program names q)

-- N5
abbrev pub base_not_declared_before : List (List ℕ) → ProgramTree → List Place
base_not_declared_before names q = places_in base_not_declared_before_at (forms_of_program names q)

-- N6
abbrev pub not_accessible : List (List ℕ) → ProgramTree → List Place
not_accessible names q = places_in not_accessible_at (forms_of_program names q)

-- N7
abbrev pub address_of_no_global_object : List (List ℕ) → ProgramTree → List Place
address_of_no_global_object names q = places_in address_of_no_global_object_at (forms_of_program names q)

-- N8
abbrev pub not_allowed_here : List (List ℕ) → ProgramTree → List Place
not_allowed_here names q = places_in not_allowed_here_at (forms_of_program names q)

-- N9
abbrev pub no_main : List (List ℕ) → ProgramTree → List Place
no_main names q = places_in no_main_at (forms_of_program names q)

-- N10, where a program is read so
abbrev pub too_many : List (List ℕ) → Mode → ProgramTree → List Place
too_many names mode q = places_in (too_many_at (most mode)) (forms_of_program names q)

-- ---- the law

-- the rules from N1 to N10, which stand side by side among all rules
abbrev pub is_on_names_and_types : Rule → Bool
is_on_names_and_types r = if nat_lt (rank r) (rank rule.N1) then false else not (nat_lt (rank rule.N10) (rank r))

abbrev pub is_of : Rule → Refusal → Bool
is_of rule r = nat_eq (rank r.rule) (rank rule)

abbrev pub place_of : Refusal → Place
place_of r = r.place

-- the places of the violations of a rule
abbrev pub violated_at : List (List ℕ) → Mode → ProgramTree → Rule → List Place
violated_at names mode q rule = map place_of (filter (is_of rule) (violations_of names mode q))

-- the violations that are found by going through a program are those that each rule by itself says, in text order
pub record EachRule (names : List (List ℕ)) (mode : Mode) (q : ProgramTree) : Type 0 where
  pub unknown_name : violated_at names mode q rule.N1 ≡ unknown_name names q
  pub declared_twice : violated_at names mode q rule.N2 ≡ declared_twice names q
  pub types_disagree : violated_at names mode q rule.N3 ≡ types_disagree names q
  pub wrong_number_of_arguments : violated_at names mode q rule.N4 ≡ wrong_number_of_arguments names q
  pub base_not_declared_before : violated_at names mode q rule.N5 ≡ base_not_declared_before names q
  pub not_accessible : violated_at names mode q rule.N6 ≡ not_accessible names q
  pub address_of_no_global_object : violated_at names mode q rule.N7 ≡ address_of_no_global_object names q
  pub not_allowed_here : violated_at names mode q rule.N8 ≡ not_allowed_here names q
  pub no_main : violated_at names mode q rule.N9 ≡ no_main names q
  pub too_many : violated_at names mode q rule.N10 ≡ too_many names mode q
  -- and no other rule is found to be violated
  pub others : (other : Rule) → is_on_names_and_types other ≡ false → violated_at names mode q other ≡ []

abbrev pub EachRuleByItself : Type 0
EachRuleByItself = (names : List (List ℕ)) (mode : Mode) (q : ProgramTree) → EachRule names mode q
