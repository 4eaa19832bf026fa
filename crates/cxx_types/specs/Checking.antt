-- What is found as a program is gone through in text order: the rules that it violates, with places, and the type and
-- meaning of each node.
use Rattle.std.specs.Prelude.{ℕ, Bool, true, false, List, [], ◌∷◌, ◌++◌, length, slice_set, Option, Some, None}
use Rattle.agxx_base.specs.declared.place.Place.{Place}
use Rattle.agxx_base.specs.declared.rule.Rule.{Rule}
use Rattle.cxx_tree.specs.declared.program.TypeName.{TypeName}
use Rattle.cxx_tree.specs.declared.program.TypeName.TheVariants as type_name
use Rattle.cxx_names.specs.declared.declarations.ClassInfo.{ClassInfo}
use Rattle.cxx_names.specs.declared.declarations.Declared.{Declared}
use Rattle.cxx_names.specs.declared.types.ValueType.{ValueType}
use Rattle.cxx_names.specs.declared.types.ValueType.TheVariants as value
use Rattle.cxx_names.specs.Declarations.{class_at}
use Rattle.cxx_types.specs.declared.entry.Entry.{Entry}
use Rattle.cxx_types.specs.declared.entry.Meaning.{Meaning}
use Rattle.cxx_types.specs.declared.entry.Meaning.TheVariants.{Other}
use Rattle.cxx_types.specs.State.{State}

-- a rule is violated at a place, unless it holds
abbrev pub required : Rule → Place → Bool → State → State
required rule at true s = s
required rule at false s = record s { found = s.found ++ (record { rule = rule; place = at }) ∷ [] }

abbrev pub pointer_to : Option ClassInfo → TypeName
pointer_to None = type_name.Void
pointer_to (Some class) = type_name.Pointer class.name.item

-- a type as a program would spell it; `nullptr` and what has no type have none
abbrev pub shown_type : Declared → Option ValueType → TypeName
shown_type d (Some (value.Number kind)) = type_name.Num kind
shown_type d (Some (value.Pointer class)) = pointer_to (class_at d class)
shown_type d _ = type_name.Void

-- the next node is this
abbrev pub noted : Option ValueType → Meaning → State → State
noted t meaning s = record s { entries = s.entries ++ (record { type_name = shown_type s.declared t; meaning = meaning }) ∷ [] }

-- the next node has a type that its parts are to tell
abbrev pub opened : State → State
opened s = noted None Other s

-- the type of the node at this place among the nodes
abbrev pub closed : ℕ → Option ValueType → State → State
closed index t s = record s { entries = slice_set s.entries index (record { type_name = shown_type s.declared t; meaning = Other }) }
