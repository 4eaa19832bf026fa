-- What names mean. A name of a variable is looked up among the locals and parameters in scope, then the members of the class in
-- whose function it stands and of the classes above that one, then the globals; a name of a function among the
-- functions of these classes, then the free ones. `::` leads to globals and free functions alone. Where a stage has several
-- things of one name, the one that is declared first is meant, and so the one farthest up in a chain of bases.
use Rattle.std.specs.Borrow.{Bor}
use Rattle.std.specs.Prelude.{ℕ, zero, suc, Bool, false, List, [], ◌∷◌, Option, Some, None, slice_get, option_map, is_some, if◌then◌else◌, nat_eq, nat_lt}
use Rattle.std.specs.List.{list_any}
use Rattle.agxx_base.specs.declared.ids.ClassId.{ClassId}
use Rattle.agxx_base.specs.declared.kind.NumKind.TheVariants.{I32, U32}
use Rattle.cxx_tree.specs.declared.expr.Ref.{Ref}
use Rattle.cxx_tree.specs.declared.program.TypeName.{TypeName}
use Rattle.cxx_tree.specs.declared.program.TypeName.TheVariants as type_name
use Rattle.cxx_names.specs.declared.declarations.MemberInfo.{MemberInfo}
use Rattle.cxx_names.specs.declared.declarations.Signature.{Signature}
use Rattle.cxx_names.specs.declared.declarations.ClassInfo.{ClassInfo}
use Rattle.cxx_names.specs.declared.declarations.GlobalInfo.{GlobalInfo}
use Rattle.cxx_names.specs.declared.declarations.GlobalInfo.TheVariants as info
use Rattle.cxx_names.specs.declared.declarations.Declared.{Declared}
use Rattle.cxx_names.specs.declared.types.ValueType.TheVariants as value
use Rattle.cxx_names.specs.declared.types.Thing.{Thing}
use Rattle.cxx_names.specs.declared.types.Thing.TheVariants as thing
use Rattle.cxx_names.specs.declared.types.Variable.{Variable}
use Rattle.cxx_names.specs.declared.types.Variable.TheVariants as variable_of
use Rattle.cxx_names.specs.Tables.{named}
use Rattle.cxx_names.specs.Declarations.{class_named, class_at}

-- the first, or else the second
abbrev pub or_next : {A : Type 0} → Option A → Option A → Option A
or_next None next = next
or_next (Some first) next = Some first

-- ---- chains of bases

abbrev pub same_class : ClassId → ClassId → Bool
same_class a b = nat_eq a.0 b.0

abbrev pub class_info : Declared → ClassId → Option ClassInfo
class_info = class_at

abbrev pub base_by : Option ClassInfo → Option ClassId
base_by None = None
base_by (Some info) = info.base

abbrev pub ancestors_by : Option ClassInfo → ℕ
ancestors_by None = 0
ancestors_by (Some info) = info.ancestors

-- a class, if there is one, and those above it
abbrev pub upwards : (ClassId → List ClassId) → Option ClassId → List ClassId
upwards above None = []
upwards above (Some class) = class ∷ above class

-- the classes above one, so many at most
abbrev pub above : List ClassInfo → ℕ → ClassId → List ClassId
above classes zero class = []
above classes (suc n) class = upwards (λ b. above classes n b) (base_by (slice_get classes class.0))

-- a class and the classes above it, from the class upwards
abbrev pub lineage : Declared → ClassId → List ClassId
lineage d class = class ∷ above d.classes (ancestors_by (class_at d class)) class

-- a class derives from itself and from the classes above it
abbrev pub derives : Declared → ClassId → ClassId → Bool
derives d class from = list_any (same_class from) (lineage d class)

abbrev pub found_in : {A : Type 0} → ClassId → Option A → Option (ClassId × A)
found_in class None = None
found_in class (Some item) = Some (class, item)

-- what is found last, or else what was found before
abbrev pub topmost : {A : Type 0} → (ClassId → Option A) → Option (ClassId × A) → List ClassId → Option (ClassId × A)
topmost find found [] = found
topmost find found (c ∷ cs) = topmost find (or_next (found_in c (find c)) found) cs

abbrev pub member_by : ℕ → Option ClassInfo → Option MemberInfo
member_by name None = None
member_by name (Some class) = named class.members name

abbrev pub method_by : ℕ → Option ClassInfo → Option Signature
method_by name None = None
method_by name (Some class) = named class.methods name

abbrev pub has_item_by : ℕ → Option ClassInfo → Bool
has_item_by name None = false
has_item_by name (Some class) = is_some (named class.items name)

-- the member of this name that a class has, with the class that declares it
abbrev pub member_named : Declared → ClassId → ℕ → Option (ClassId × MemberInfo)
member_named d class name = topmost (λ c. member_by name (class_at d c)) None (lineage d class)

-- the function of this name that a class has, with the class that declares it
abbrev pub method_named : Declared → ClassId → ℕ → Option (ClassId × Signature)
method_named d class name = topmost (λ c. method_by name (class_at d c)) None (lineage d class)

-- whether a class, or one above it, declares a member or function of this name
abbrev pub has_item : Declared → ClassId → ℕ → Bool
has_item d class name = list_any (λ c. has_item_by name (class_at d c)) (lineage d class)

-- ---- what variables hold

abbrev pub pointer_by : Option ClassId → Thing
pointer_by None = thing.Nothing
pointer_by (Some class) = thing.Value (value.Pointer class)

-- what a variable of this type holds
abbrev pub thing_of : Declared → TypeName → Thing
thing_of d (type_name.Num kind) = thing.Value (value.Number kind)
thing_of d type_name.Int = thing.Value (value.Number I32)
thing_of d type_name.Unsigned = thing.Value (value.Number U32)
thing_of d type_name.Void = thing.Nothing
thing_of d (type_name.Pointer class) = pointer_by (class_named d class.0)
thing_of d type_name.Mutex = thing.Mutex

abbrev pub global_thing : Declared → GlobalInfo → Thing
global_thing d (info.Variable t) = thing_of d t
global_thing d (info.Object class) = thing.Object (class_named d class.0)
global_thing d info.Mutex = thing.Mutex

-- ---- the stages of a look-up

abbrev pub local_variable : List (ℕ × Thing) → ℕ → Option Variable
local_variable scope name = option_map variable_of.Local (named scope name)

abbrev pub member_as : Declared → ClassId × MemberInfo → Variable
member_as d m = variable_of.Member m.0 m.1.access (thing_of d m.1.type_name)

abbrev pub member_variable : Declared → Option ClassId → ℕ → Option Variable
member_variable d None name = None
member_variable d (Some class) name = option_map (member_as d) (member_named d class name)

abbrev pub global_variable : Declared → ℕ → Option Variable
global_variable d name = option_map (λ g. variable_of.Global (global_thing d g)) (named d.globals name)

-- the variable that a name means in a function of this class, if of any, where these locals and parameters are in scope
abbrev pub variable : Declared → List (ℕ × Thing) → Option ClassId → Ref → Option Variable
variable d scope class r =
    if r.global then global_variable d r.name.item.0
    else or_next (local_variable scope r.name.item.0) (or_next (member_variable d class r.name.item.0) (global_variable d r.name.item.0))

-- what a reference points to, with what stands beside it
abbrev pub lent : {A : Type 0} → A × Bor Signature → A × Signature
lent p = (p.0, p.1.now)

abbrev pub free_signature : Declared → ℕ → Option Signature
free_signature d name = named d.functions name

abbrev pub free_function : Declared → ℕ → Option (Option ClassId × Signature)
free_function d name = option_map (λ s. (None, s)) (free_signature d name)

abbrev pub own_function : Declared → Option ClassId → ℕ → Option (ClassId × Signature)
own_function d None name = None
own_function d (Some class) name = method_named d class name

abbrev pub function_by : Option (ClassId × Signature) → Option (Option ClassId × Signature) → Option (Option ClassId × Signature)
function_by None next = next
function_by (Some m) next = Some (Some m.0, m.1)

-- the function that a name means in a function of this class, if of any, with the class that declares it
abbrev pub function : Declared → Option ClassId → Ref → Option (Option ClassId × Signature)
function d class r =
    if r.global then free_function d r.name.item.0
    else function_by (own_function d class r.name.item.0) (free_function d r.name.item.0)

-- ---- what stands before

-- the first thing of a name stands before this place
abbrev pub stands_before : Option ℕ → ℕ → Bool
stands_before None index = false
stands_before (Some first) index = nat_lt first index

-- a class, function or global of this name stands before this place among the declarations
abbrev pub is_declared_before : Declared → ℕ → ℕ → Bool
is_declared_before d name index = stands_before (named d.first name) index
