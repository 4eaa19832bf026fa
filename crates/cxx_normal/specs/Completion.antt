-- A class without a constructor gets an empty public one, and so does one without a destructor. They stand at its end,
-- and their places are that of the class's name.
use Rattle.std.specs.Prelude.{Bool, true, false, if◌then◌else◌, List, [], ◌∷◌, ◌++◌}
use Rattle.std.specs.List.{list_any}
use Rattle.agxx_base.specs.declared.ids.NameId.{NameId}
use Rattle.agxx_base.specs.declared.place.Place.{Place}
use Rattle.cxx_tree.specs.declared.node.Placed.{Placed}
use Rattle.cxx_tree.specs.declared.program.Access.TheVariants as access_of
use Rattle.cxx_tree.specs.StmtTree.{braces, no_stmts}
use Rattle.cxx_tree.specs.ProgramTree.{CtorTree, DtorTree, ItemTree, label, member, function, ctor, dtor, ClassTree}

abbrev pub is_ctor : ItemTree → Bool
is_ctor (label at access) = false
is_ctor (member m) = false
is_ctor (function f) = false
is_ctor (ctor c) = true
is_ctor (dtor d) = false

abbrev pub is_dtor : ItemTree → Bool
is_dtor (label at access) = false
is_dtor (member m) = false
is_dtor (function f) = false
is_dtor (ctor c) = false
is_dtor (dtor d) = true

abbrev pub empty_ctor : Placed NameId → CtorTree
empty_ctor name = record { name = name; params = []; inits = []; body = braces name.at no_stmts }

abbrev pub empty_dtor : Placed NameId → DtorTree
empty_dtor name = record { at = name.at; name = name; body = braces name.at no_stmts }

-- a public item
abbrev pub public : Place → ItemTree → List ItemTree
public at item = label at access_of.Public ∷ item ∷ []

abbrev pub made_ctor : Placed NameId → Bool → List ItemTree
made_ctor name has_ctor = if has_ctor then [] else public name.at (ctor (empty_ctor name))

abbrev pub made_dtor : Placed NameId → Bool → List ItemTree
made_dtor name has_dtor = if has_dtor then [] else public name.at (dtor (empty_dtor name))

-- what is made for a class of this name with these items
abbrev pub made : Placed NameId → List ItemTree → List ItemTree
made name items = made_ctor name (list_any is_ctor items) ++ made_dtor name (list_any is_dtor items)

abbrev pub completed : ClassTree → ClassTree
completed c = record c { items = c.items ++ made c.name c.items }
