-- The types of expressions. An expression has a type only where nothing in it violates a rule.
use Rattle.std.specs.Prelude.{ℕ, Bool, true, false, List, [], ◌∷◌, Option, Some, None, if◌then◌else◌}
use Rattle.agxx_base.specs.declared.ids.ClassId.{ClassId}
use Rattle.agxx_base.specs.declared.ids.NameId.{NameId}
use Rattle.agxx_base.specs.declared.kind.NumKind.TheVariants as num
use Rattle.cxx_tree.specs.declared.node.Placed.{Placed}
use Rattle.cxx_tree.specs.declared.operator.UnOp.TheVariants as un
use Rattle.cxx_tree.specs.declared.expr.Callee.{Callee}
use Rattle.cxx_tree.specs.declared.expr.Callee.TheVariants as callee_of
use Rattle.cxx_tree.specs.declared.expr.Left.{Left}
use Rattle.cxx_tree.specs.declared.expr.Left.TheVariants as left_of
use Rattle.cxx_tree.specs.declared.program.Param.{Param}
use Rattle.cxx_tree.specs.ExprTree as e
use Rattle.cxx_tree.specs.ExprTree.{ExprTree, ExprTrees, CallTree}
use Rattle.cxx_names.specs.declared.declarations.Declared.{Declared}
use Rattle.cxx_names.specs.declared.declarations.MemberInfo.{MemberInfo}
use Rattle.cxx_names.specs.declared.declarations.Signature.{Signature}
use Rattle.cxx_names.specs.declared.types.ValueType.{ValueType}
use Rattle.cxx_names.specs.declared.types.ValueType.TheVariants as value
use Rattle.cxx_names.specs.LookUp.{thing_of}
use Rattle.cxx_types.specs.declared.context.Holder.{Holder}
use Rattle.cxx_types.specs.declared.context.Holder.TheVariants as holder
use Rattle.cxx_types.specs.Callable.{Callable}
use Rattle.cxx_types.specs.Conversion.{may_convert, binary_type, unary_type, cast_type, truth}
use Rattle.cxx_types.specs.Selections.{value_of}
use Rattle.cxx_types.specs.Calls.{counts, access_of, unknown, result_type}
use Rattle.cxx_types.specs.Expressions.{own_type, kind_of, called_type, count, both}
use Rattle.cxx_rules.specs.Sites.{Site, thing_held, object_of, holder_of, member_meant, member_held, method_meant, method_is_usable, function_meant, class_meant, ctor_meant, is_usable}

-- ---- names

abbrev pub member_type_by : Site → ClassId → Option (ClassId × MemberInfo) → Option ValueType
member_type_by w class None = None
member_type_by w class (Some m) = value_of (member_held w class m)

abbrev pub member_type : Site → Placed NameId → Holder → Option ValueType
member_type w name (holder.Class class) = member_type_by w class (member_meant w class name)
member_type w name _ = None

abbrev pub type_of_left : Site → Left → Option ValueType
type_of_left w (left_of.Name r) = value_of (thing_held w r)
type_of_left w (left_of.Member n q) = member_type w q.name (holder_of w q.base)
type_of_left w (left_of.Result n) = Some (value.Number num.I64)

abbrev pub address_type : Option (Option ClassId) → Option ValueType
address_type None = None
address_type (Some class) = own_type class

-- ---- what is called, with so many arguments

abbrev pub bare_function : Site → ℕ → Option (Option ClassId × Signature) → Callable
bare_function w count None = unknown
bare_function w count (Some f) = record {
  params = f.1.params;
  result = result_type w.declared f.1.result;
  is_right = if access_of w.declared w.context.class f then (if f.1.is_main then false else counts count f.1.params) else false;
}

abbrev pub method : Site → ClassId → ℕ → Option (ClassId × Signature) → Callable
method w class count None = unknown
method w class count (Some f) = record {
  params = f.1.params;
  result = result_type w.declared f.1.result;
  is_right = if method_is_usable w class f then counts count f.1.params else false;
}

abbrev pub function_behind : Site → Placed NameId → ℕ → Holder → Callable
function_behind w name count (holder.Class class) = method w class count (method_meant w class name)
function_behind w name count _ = unknown

abbrev pub callable : Site → Callee → ℕ → Callable
callable w (callee_of.Bare r) count = bare_function w count (function_meant w r)
callable w (callee_of.Member q) count = function_behind w q.name count (holder_of w q.base)

-- a class that has no constructor is not created; each class of a normal program has one
abbrev pub constructor : Site → ClassId → ℕ → Option Signature → Callable
constructor w class count None = unknown
constructor w class count (Some f) = record {
  params = f.params;
  result = Some (value.Pointer class);
  is_right = if is_usable w class (Some f) then counts count f.params else false;
}

abbrev pub creatable_by : Site → ℕ → Option ClassId → Callable
creatable_by w count None = unknown
creatable_by w count (Some class) = constructor w class count (ctor_meant w class)

abbrev pub creatable : Site → Placed NameId → ℕ → Callable
creatable w name count = creatable_by w count (class_meant w name)

abbrev pub type_of_param : Declared → Param → Option ValueType
type_of_param d p = value_of (thing_of d p.type_name.item)

-- whether an argument has a type that converts to a parameter's
abbrev pub passes : Declared → Option ValueType → Option ValueType → Bool
passes d None to = false
passes d (Some from) None = false
passes d (Some from) (Some to) = may_convert d (Some from) (Some to)

-- ---- all expressions

abbrev mutual
  pub type_of_expr : Site → ExprTree → Option ValueType
  type_of_expr w (e.lit n number) = Some (value.Number number.kind)
  type_of_expr w (e.flag n is_set) = Some truth
  type_of_expr w (e.null n) = Some value.Null
  type_of_expr w (e.this n) = own_type w.context.class
  type_of_expr w (e.left l) = type_of_left w l
  type_of_expr w (e.unary n un.AddressOf operand) = address_type (object_of w operand)
  type_of_expr w (e.unary n o operand) = unary_type o (type_of_expr w operand)
  type_of_expr w (e.binary n o a b) = binary_type w.declared o.item (type_of_expr w a) (type_of_expr w b)
  type_of_expr w (e.paren n inner) = type_of_expr w inner
  type_of_expr w (e.cast n t operand) = cast_type (kind_of t) (type_of_expr w operand)
  type_of_expr w (e.call k) = type_of_call w k
  type_of_expr w (e.new n class) = called_type (creatable w class 0) true
  type_of_expr w (e.new_with n class arguments) =
      called_type (creatable w class (count arguments)) (fit w (creatable w class (count arguments)).params arguments)

  -- whether each argument has a type that converts to that of its parameter
  pub fit : Site → List Param → ExprTrees → Bool
  fit w params e.no_exprs = true
  fit w [] (e.more_exprs first rest) = false
  fit w (p ∷ ps) (e.more_exprs first rest) = both (passes w.declared (type_of_expr w first) (type_of_param w.declared p)) (fit w ps rest)

  pub type_of_call : Site → CallTree → Option ValueType
  type_of_call w (e.calls n callee arguments) =
      called_type (callable w callee (count arguments)) (fit w (callable w callee (count arguments)).params arguments)
