-- What the names of an expression or a statement stand for, by the look-up of names. Where there is no such thing, there
-- is none; what is refused for other reasons, as access and conversions, is not looked at.
use Rattle.std.specs.Prelude.{ℕ, false, List, Option, Some, None, codes, if◌then◌else◌}
use Rattle.agxx_base.specs.declared.ids.ClassId.{ClassId}
use Rattle.agxx_base.specs.declared.place.Place.{Place}
use Rattle.agxx_base.specs.declared.kind.NumKind.{NumKind}
use Rattle.cxx_tree.specs.declared.expr.Ref.{Ref}
use Rattle.cxx_tree.specs.declared.expr.Base.{Base}
use Rattle.cxx_tree.specs.declared.expr.Base.TheVariants as base_of
use Rattle.cxx_tree.specs.declared.expr.Left.{Left}
use Rattle.cxx_tree.specs.declared.expr.Left.TheVariants as left_of
use Rattle.cxx_tree.specs.declared.expr.Callee.{Callee}
use Rattle.cxx_tree.specs.declared.expr.Callee.TheVariants as callee_of
use Rattle.cxx_tree.specs.declared.program.TypeName.{TypeName}
use Rattle.cxx_tree.specs.ExprTree as e
use Rattle.cxx_names.specs.declared.declarations.Declared.{Declared}
use Rattle.cxx_names.specs.declared.declarations.MemberInfo.{MemberInfo}
use Rattle.cxx_names.specs.declared.declarations.Signature.{Signature}
use Rattle.cxx_names.specs.declared.types.ValueType.{ValueType}
use Rattle.cxx_names.specs.declared.types.ValueType.TheVariants as type
use Rattle.cxx_names.specs.declared.types.Thing.{Thing}
use Rattle.cxx_names.specs.declared.types.Thing.TheVariants as thing
use Rattle.cxx_names.specs.declared.types.Variable.{Variable}
use Rattle.cxx_names.specs.declared.types.Variable.TheVariants as variable_of
use Rattle.cxx_names.specs.Declarations.{is_text}
use Rattle.cxx_names.specs.LookUp.{variable, function, member_named, method_named, thing_of}
use Rattle.cxx_core.specs.CoreExpr as c
use Rattle.cxx_core.specs.CoreExpr.{CoreVariable, CoreObject, CoreLeft, CoreCallee}
use Rattle.cxx_core.specs.CoreStmt as cs
use Rattle.cxx_core.specs.CoreStmt.{CoreStmt, CoreMutex}

-- names with what they stand for
abbrev pub Scope : Type 0
Scope = List (ℕ × Thing)

-- where something stands: the texts of names, what the program declares, and the class and the result of the function
pub record Within : Type 0 where
  pub names : List (List ℕ)
  pub declared : Declared
  pub class : Option ClassId
  pub result : Option ValueType

abbrev pub value_type : Thing → Option ValueType
value_type (thing.Value t) = Some t
value_type _ = None

abbrev pub number_kind : Option ValueType → Option NumKind
number_kind (Some (type.Number k)) = Some k
number_kind _ = None

-- the type of what a variable of this type holds, and of what a function with this result gives
abbrev pub type_named : Declared → TypeName → Option ValueType
type_named d name = value_type (thing_of d name)

abbrev pub kind_named : Declared → TypeName → Option NumKind
kind_named d name = number_kind (type_named d name)

abbrev pub variable_at : Within → Scope → Ref → Option Variable
variable_at w scope r = variable w.declared scope w.class r

-- ---- variables

abbrev pub member_of : Place → CoreObject → ClassId → ℕ → Option NumKind → Option CoreLeft
member_of at o class name None = None
member_of at o class name (Some k) = Some (c.member at o class name k)

abbrev pub left_by : Ref → Option Variable → Option CoreLeft
left_by r (Some (variable_of.Local (thing.Value t))) = Some (c.variable (c.local r.name.item.0 t))
left_by r (Some (variable_of.Member class access (thing.Value (type.Number k)))) = Some (c.member r.node.at c.own class r.name.item.0 k)
left_by r (Some (variable_of.Global (thing.Value t))) = Some (c.variable (c.global r.global r.name.item.0 t))
left_by r _ = None

-- ---- objects, with their static classes

abbrev pub own_object : CoreObject → Option ClassId → Option (CoreObject × ClassId)
own_object o None = None
own_object o (Some class) = Some (o, class)

abbrev pub object_by : Ref → Option Variable → Option (CoreObject × ClassId)
object_by r (Some (variable_of.Global (thing.Object (Some class)))) = Some (c.by_object r.name.item.0 class, class)
object_by r _ = None

abbrev pub pointed_by : Option CoreLeft → Option (CoreObject × ClassId)
pointed_by (Some (c.variable (c.local name (type.Pointer class)))) = Some (c.by_pointer (c.local name (type.Pointer class)), class)
pointed_by (Some (c.variable (c.global is_global name (type.Pointer class)))) =
    Some (c.by_pointer (c.global is_global name (type.Pointer class)), class)
pointed_by _ = None

abbrev pub object_at : Within → Scope → Base → Option (CoreObject × ClassId)
object_at w scope base_of.This = own_object c.by_this w.class
object_at w scope (base_of.Dot r) = object_by r (variable_at w scope r)
object_at w scope (base_of.Arrow r) = pointed_by (left_by r (variable_at w scope r))

-- the global object that an operand of `&` names
abbrev pub addressed : Within → Scope → e.ExprTree → Option (CoreObject × ClassId)
addressed w scope (e.left (left_of.Name r)) = object_by r (variable_at w scope r)
addressed w scope _ = None

-- ---- members

abbrev pub member_found : Declared → Place → CoreObject → ℕ → Option (ClassId × MemberInfo) → Option CoreLeft
member_found d at o name None = None
member_found d at o name (Some m) = member_of at o m.0 name (kind_named d m.1.type_name)

abbrev pub member_in : Declared → Place → ℕ → Option (CoreObject × ClassId) → Option CoreLeft
member_in d at name None = None
member_in d at name (Some o) = member_found d at o.0 name (member_named d o.1 name)

-- what may be assigned to
abbrev pub left_at : Within → Scope → Left → Option CoreLeft
left_at w scope (left_of.Name r) = left_by r (variable_at w scope r)
left_at w scope (left_of.Member n q) = member_in w.declared n.at q.name.item.0 (object_at w scope q.base)
left_at w scope (left_of.Result n) = None

-- ---- functions

abbrev pub own_if : Option ClassId → Option CoreObject
own_if None = None
own_if (Some class) = Some c.own

abbrev pub bare_callee : Declared → Place → Ref → Option (Option ClassId × Signature) → Option CoreCallee
bare_callee d at r None = None
bare_callee d at r (Some f) = Some (record {
  at = at;
  named = r.name.at;
  function = f.1.id.0;
  name = r.name.item.0;
  class = f.0;
  object = own_if f.0;
  is_global = r.global;
  result = type_named d f.1.result;
})

abbrev pub method_found : Declared → Place → Place → ℕ → CoreObject → Option (ClassId × Signature) → Option CoreCallee
method_found d at named name o None = None
method_found d at named name o (Some m) = Some (record {
  at = at;
  named = named;
  function = m.1.id.0;
  name = name;
  class = Some m.0;
  object = Some o;
  is_global = false;
  result = type_named d m.1.result;
})

abbrev pub method_in : Declared → Place → Place → ℕ → Option (CoreObject × ClassId) → Option CoreCallee
method_in d at named name None = None
method_in d at named name (Some o) = method_found d at named name o.0 (method_named d o.1 name)

abbrev pub callee_at : Within → Scope → Place → Callee → Option CoreCallee
callee_at w scope at (callee_of.Bare r) = bare_callee w.declared at r (function w.declared w.class r)
callee_at w scope at (callee_of.Member q) = method_in w.declared at q.name.at q.name.item.0 (object_at w scope q.base)

-- ---- what is called on threads and mutexes, in place of a statement that calls a function

abbrev pub thread_stmt : Within → Place → ℕ → ℕ → CoreStmt
thread_stmt w at name word = if is_text w.names word (codes "join") then cs.join at name else cs.wrong at

abbrev pub mutex_stmt : Within → Place → CoreMutex → ℕ → CoreStmt
mutex_stmt w at m word =
    if is_text w.names word (codes "lock") then cs.lock at m
    else (if is_text w.names word (codes "unlock") then cs.unlock at m else cs.wrong at)

abbrev pub on_variable : Within → Place → Ref → ℕ → Option Variable → CoreStmt → CoreStmt
on_variable w at r word (Some (variable_of.Local thing.Thread)) call = thread_stmt w at r.name.item.0 word
on_variable w at r word (Some (variable_of.Member class access thing.Mutex)) call =
    mutex_stmt w at (cs.member_mutex class r.name.item.0) word
on_variable w at r word (Some (variable_of.Global thing.Mutex)) call = mutex_stmt w at (cs.global_mutex r.name.item.0) word
on_variable w at r word _ call = call

abbrev pub on_base : Within → Scope → Place → Base → ℕ → CoreStmt → CoreStmt
on_base w scope at (base_of.Dot r) word call = on_variable w at r word (variable_at w scope r) call
on_base w scope at _ word call = call

abbrev pub on_callee : Within → Scope → Place → Callee → CoreStmt → CoreStmt
on_callee w scope at (callee_of.Member q) call = on_base w scope at q.base q.name.item.0 call
on_callee w scope at _ call = call
