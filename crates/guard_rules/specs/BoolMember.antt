-- P2: a guarded class has a member of type `bool`. The place is the member's name.
use Rattle.std.specs.Prelude.{Bool, true, false, List, [], Option, None, if◌then◌else◌}
use Rattle.agxx_base.specs.declared.kind.NumKind.TheVariants as num
use Rattle.agxx_base.specs.declared.place.Place.{Place}
use Rattle.cxx_tree.specs.declared.program.TypeName.{TypeName}
use Rattle.cxx_tree.specs.declared.program.TypeName.TheVariants as type_name
use Rattle.cxx_tree.specs.ProgramTree as p
use Rattle.cxx_tree.specs.ProgramTree.{ItemTree, DeclTree, ProgramTree}
use Rattle.guards.specs.declared.guard.Guard.{Guard}
use Rattle.guard_rules.specs.Parts.{is_guarded, place_where, places_of, in_each}

abbrev pub is_bool : TypeName → Bool
is_bool (type_name.Num num.Bool) = true
is_bool _ = false

abbrev pub bool_at : ItemTree → Option Place
bool_at (p.member m) = place_where (is_bool m.type_name.item) m.name.at
bool_at _ = None

abbrev pub bools_in : List Guard → DeclTree → List Place
bools_in guards (p.class k) = if is_guarded guards k.name.item then places_of bool_at k.items else []
bools_in guards _ = []

abbrev pub bool_member : List Guard → ProgramTree → List Place
bool_member guards q = in_each (bools_in guards) q.decls
