-- Who may use a member, function, constructor or destructor of a class.
use Rattle.std.specs.Prelude.{Bool, true, false, Option, Some, None, if◌then◌else◌}
use Rattle.agxx_base.specs.declared.ids.ClassId.{ClassId}
use Rattle.cxx_tree.specs.declared.program.Access.{Access}
use Rattle.cxx_tree.specs.declared.program.Access.TheVariants as access
use Rattle.cxx_names.specs.declared.declarations.Declared.{Declared}
use Rattle.cxx_names.specs.declared.types.Variable.{Variable}
use Rattle.cxx_names.specs.declared.types.Variable.TheVariants as variable
use Rattle.cxx_names.specs.LookUp.{same_class, derives}

-- In a function of the class `viewer`, on an object whose static class is `holder`, what `owner` declares: a private
-- one is for its class alone, a protected one for its class and those that derive from it.
abbrev pub may_use : Declared → Access → ClassId → ClassId → ClassId → Bool
may_use d access.Public viewer holder owner = true
may_use d access.Protected viewer holder owner = if derives d viewer owner then derives d holder viewer else false
may_use d access.Private viewer holder owner = if same_class viewer owner then same_class holder owner else false

abbrev pub is_public : Access → Bool
is_public access.Public = true
is_public access.Protected = false
is_public access.Private = false

-- outside all classes only what is public
abbrev pub is_accessible : Declared → Access → Option ClassId → ClassId → ClassId → Bool
is_accessible d a None holder owner = is_public a
is_accessible d a (Some viewer) holder owner = may_use d a viewer holder owner

-- a member by its bare name is one of the object that the function runs on
abbrev pub own_is_accessible : Declared → Access → Option ClassId → ClassId → Bool
own_is_accessible d a None owner = is_public a
own_is_accessible d a (Some viewer) owner = may_use d a viewer viewer owner

abbrev pub variable_is_accessible : Declared → Option ClassId → Option Variable → Bool
variable_is_accessible d viewer (Some (variable.Member owner a thing)) = own_is_accessible d a viewer owner
variable_is_accessible d viewer _ = true
