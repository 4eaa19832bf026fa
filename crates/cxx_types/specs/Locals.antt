-- Declarations of locals and parameters.
use Rattle.std.specs.Prelude.{ℕ, suc, Bool, true, false, not, nat_eq, nat_lt, Option, Some, None, is_some, if◌then◌else◌}
use Rattle.agxx_base.specs.declared.ids.ClassId.{ClassId}
use Rattle.agxx_base.specs.declared.ids.NameId.{NameId}
use Rattle.agxx_base.specs.declared.rule.Rule.TheVariants as rule
use Rattle.cxx_tree.specs.declared.node.Placed.{Placed}
use Rattle.cxx_tree.specs.declared.program.TypeName.{TypeName}
use Rattle.cxx_tree.specs.declared.program.TypeName.TheVariants as type_name
use Rattle.cxx_names.specs.declared.declarations.ClassInfo.{ClassInfo}
use Rattle.cxx_names.specs.declared.types.Thing.{Thing}
use Rattle.cxx_names.specs.Tables.{named, with_name}
use Rattle.cxx_names.specs.Declarations.{class_named, class_at}
use Rattle.cxx_types.specs.declared.context.Context.{Context}
use Rattle.cxx_types.specs.State.{State}
use Rattle.cxx_types.specs.Checking.{required}

-- ---- types

abbrev pub known_class : Placed TypeName → NameId → State → State
known_class t class s = required rule.N1 t.at (is_some (class_named s.declared class.0)) s

abbrev pub variable_type_by : Placed TypeName → TypeName → State → State
variable_type_by t type_name.Void s = required rule.N8 t.at false s
variable_type_by t (type_name.Pointer class) s = known_class t class s
variable_type_by t _ s = s

-- the type of a variable: a class behind a pointer is one, and `void` stands as a result alone
unfoldable pub variable_type : Placed TypeName → State → State
variable_type t s = variable_type_by t t.item s

abbrev pub result_type_by : Placed TypeName → TypeName → State → State
result_type_by t (type_name.Pointer class) s = known_class t class s
result_type_by t _ s = s

-- the type of a result
unfoldable pub result_type : Placed TypeName → State → State
result_type t s = result_type_by t t.item s

-- ---- names

abbrev pub class_by : Option ClassId → State → Option ClassInfo
class_by None s = None
class_by (Some class) s = class_at s.declared class

abbrev pub class_meant : NameId → State → Option ClassInfo
class_meant name s = class_by (class_named s.declared name.0) s

-- The name of a class is no other thing's, in the declaration at this place among all. Of a class and such a thing the later
-- name is refused.
abbrev pub apart_from : ℕ → Placed NameId → Option ClassInfo → State → State
apart_from index name None s = s
apart_from index name (Some class) s =
    required rule.N2 (if nat_lt index class.index then class.name.at else name.at) false s

unfoldable pub no_class : Context → Placed NameId → State → State
no_class c name s = apart_from c.index name (class_meant name.item s) s

-- a local or parameter has a name of its own among those in scope
abbrev pub own_name : Context → Placed NameId → State → State
own_name c name s = no_class c name (required rule.N2 name.at (not (is_some (named s.scope name.item.0))) s)

abbrev pub in_scope : Placed NameId → Thing → State → State
in_scope name t s = record s { scope = with_name s.scope name.item.0 t }

abbrev pub one_more_local : State → State
one_more_local s = record s { locals = suc s.locals }

-- the first local past the limit is refused
abbrev pub counted_local : Placed NameId → State → State
counted_local name s = one_more_local (required rule.N10 name.at (not (nat_eq s.locals s.most.locals)) s)

-- a local that is in scope from here on
unfoldable pub local_declared : Context → Placed NameId → Thing → State → State
local_declared c name t s = in_scope name t (counted_local name (own_name c name s))

-- a parameter
unfoldable pub param_declared : Context → Placed NameId → Thing → State → State
param_declared c name t s = in_scope name t (own_name c name s)
