-- N3: something has not the type that stands where it does, as far as it has a type.
use Rattle.std.specs.Prelude.{Bool, true, false, not, Option, Some, None, if◌then◌else◌}
use Rattle.agxx_base.specs.declared.ids.ClassId.{ClassId}
use Rattle.agxx_base.specs.declared.ids.NameId.{NameId}
use Rattle.agxx_base.specs.declared.place.Place.{Place}
use Rattle.cxx_tree.specs.declared.node.Node.{Node}
use Rattle.cxx_tree.specs.declared.node.Placed.{Placed}
use Rattle.cxx_tree.specs.declared.operator.BinOp.{BinOp}
use Rattle.cxx_tree.specs.declared.expr.Base.{Base}
use Rattle.cxx_tree.specs.declared.expr.Base.TheVariants as base_of
use Rattle.cxx_tree.specs.declared.expr.Callee.{Callee}
use Rattle.cxx_tree.specs.declared.expr.Callee.TheVariants as callee_of
use Rattle.cxx_tree.specs.declared.program.TypeName.{TypeName}
use Rattle.cxx_tree.specs.ExprTree.{ExprTree}
use Rattle.cxx_tree.specs.Places.{expr_node}
use Rattle.cxx_names.specs.declared.declarations.MemberInfo.{MemberInfo}
use Rattle.cxx_names.specs.declared.declarations.Declared.{Declared}
use Rattle.cxx_names.specs.declared.declarations.Signature.{Signature}
use Rattle.cxx_names.specs.declared.types.ValueType.{ValueType}
use Rattle.cxx_names.specs.declared.types.ValueType.TheVariants as value
use Rattle.cxx_names.specs.LookUp.{free_signature, thing_of}
use Rattle.cxx_names.specs.Tables.{named}
use Rattle.cxx_types.specs.declared.context.Holder.{Holder}
use Rattle.cxx_types.specs.declared.context.Holder.TheVariants as holder
use Rattle.cxx_types.specs.declared.context.Owner.{Owner}
use Rattle.cxx_types.specs.declared.context.Owner.TheVariants as owner
use Rattle.cxx_types.specs.Conversion.{may_convert, are_numbers, takes, takes_one, casts, may_be_bumped, may_be_printed}
use Rattle.cxx_types.specs.Selections.{is_value, value_of, has_dot, has_arrow}
use Rattle.cxx_types.specs.Calls.{is_void, result_type}
use Rattle.cxx_types.specs.Expressions.{kind_of}
use Rattle.cxx_types.specs.Programs.{const_type}
use Rattle.cxx_rules.specs.Sites.{Site, thing_held, holder_of, member_meant, member_held, method_meant, function_meant}
use Rattle.cxx_rules.specs.Types.{type_of_expr, type_of_left, type_of_param}
use Rattle.cxx_rules.specs.Forms as form
use Rattle.cxx_rules.specs.Forms.{Form}
use Rattle.cxx_rules.specs.Unless.{unless}

-- `.` stands behind what has members, `->` behind a pointer
abbrev pub no_members : Site → Place → Base → Option Place
no_members w at base_of.This = None
no_members w at (base_of.Dot r) = unless (has_dot (thing_held w r)) at
no_members w at (base_of.Arrow r) = unless (has_arrow (thing_held w r)) at

-- an object, a thread and a mutex are no values
abbrev pub member_is_no_value : Site → Place → ClassId → Option (ClassId × MemberInfo) → Option Place
member_is_no_value w at class None = None
member_is_no_value w at class (Some m) = unless (is_value (member_held w class m)) at

abbrev pub behind_is_no_value : Site → Place → Placed NameId → Holder → Option Place
behind_is_no_value w at name (holder.Class class) = member_is_no_value w at class (member_meant w class name)
behind_is_no_value w at name _ = None

-- a call without result is no value
abbrev pub no_result : Node → Bool → TypeName → Option Place
no_result n as_value result = unless (if as_value then not (is_void result) else true) n.at

abbrev pub function_no_result : Node → Bool → Option (Option ClassId × Signature) → Option Place
function_no_result n as_value None = None
function_no_result n as_value (Some f) = no_result n as_value f.1.result

abbrev pub method_no_result : Node → Bool → Option (ClassId × Signature) → Option Place
method_no_result n as_value None = None
method_no_result n as_value (Some f) = no_result n as_value f.1.result

abbrev pub behind_no_result : Site → Node → Placed NameId → Bool → Holder → Option Place
behind_no_result w n name as_value (holder.Class class) = method_no_result n as_value (method_meant w class name)
behind_no_result w n name as_value _ = None

abbrev pub call_no_result : Site → Node → Callee → Bool → Option Place
call_no_result w n (callee_of.Bare r) as_value = function_no_result n as_value (function_meant w r)
call_no_result w n (callee_of.Member q) as_value = behind_no_result w n q.name as_value (holder_of w q.base)

-- a value is assigned where it converts; an operator takes numbers
abbrev pub assigns : Declared → Option BinOp → Option ValueType → Option ValueType → Bool
assigns d None to from = may_convert d from to
assigns d (Some o) to from = are_numbers to from

-- a value is returned where there is a result to whose type it converts, and none where there is no result
abbrev pub returns : Site → TypeName → Option ExprTree → Bool
returns w type None = is_void type
returns w type (Some e) = if is_void type then false else may_convert w.declared (type_of_expr w e) (result_type w.declared type)

abbrev pub wrongly_returned : Site → Owner → Place → Option ExprTree → Option Place
wrongly_returned w (owner.Function type) at e = unless (returns w type e) at
wrongly_returned w _ at e = None

-- a pointer to an object is deleted
abbrev pub wrongly_deleted : Place → Option ValueType → Option Place
wrongly_deleted at None = None
wrongly_deleted at (Some (value.Pointer class)) = None
wrongly_deleted at (Some type) = Some at

-- a thread runs a function without a result
abbrev pub has_result : Place → Option Signature → Option Place
has_result at None = None
has_result at (Some f) = unless (is_void f.result) at

abbrev pub mutex_initialised : Site → Place → Option MemberInfo → Option Place
mutex_initialised w at None = None
mutex_initialised w at (Some m) = unless (is_value (thing_of w.declared m.type_name)) at

abbrev pub types_disagree_at : Form → Option Place
types_disagree_at (form.variable w r) = unless (is_value (thing_held w r)) r.node.at
types_disagree_at (form.base w at b) = no_members w at b
types_disagree_at (form.member w at q) = behind_is_no_value w at q.name (holder_of w q.base)
types_disagree_at (form.call w n callee count as_value) = call_no_result w n callee as_value
types_disagree_at (form.operand w n o x) = unless (takes_one o (type_of_expr w x)) n.at
types_disagree_at (form.operands w o a b) = unless (takes w.declared o.item (type_of_expr w a) (type_of_expr w b)) o.at
types_disagree_at (form.cast w t x) = unless (casts (kind_of t) (type_of_expr w x)) (expr_node x).at
types_disagree_at (form.argument w p x) = unless (may_convert w.declared (type_of_expr w x) (type_of_param w.declared p)) (expr_node x).at
types_disagree_at (form.initial w t i) = unless (may_convert w.declared (type_of_expr w i.value) (value_of (thing_of w.declared t))) i.sign
types_disagree_at (form.assigned w a) = unless (assigns w.declared a.sign.item (type_of_left w a.left) (type_of_expr w a.value)) a.sign.at
types_disagree_at (form.bumped w b) = unless (may_be_bumped (type_of_left w b.left)) b.sign
types_disagree_at (form.returned w at e) = wrongly_returned w w.context.owner at e
types_disagree_at (form.deleted w at e) = wrongly_deleted at (type_of_expr w e)
types_disagree_at (form.printed w e) = unless (may_be_printed (type_of_expr w e)) (expr_node e).at
types_disagree_at (form.started w at r) = has_result r.node.at (free_signature w.declared r.name.item.0)
types_disagree_at (form.member_initialiser w class name count) = mutex_initialised w name.at (named class.members name.item.0)
types_disagree_at (form.member_value w name t e) = unless (may_convert w.declared (type_of_expr w e) (value_of (thing_of w.declared t))) name.at
types_disagree_at (form.constant w t k) = unless (may_convert w.declared (Some (const_type k.item)) (value_of (thing_of w.declared t))) k.at
types_disagree_at _ = None
