-- N8: something may not stand where it does.
use Rattle.std.specs.Prelude.{Bool, true, false, not, Option, Some, None, is_some, if◌then◌else◌}
use Rattle.agxx_base.specs.declared.ids.ClassId.{ClassId}
use Rattle.agxx_base.specs.declared.ids.NameId.{NameId}
use Rattle.agxx_base.specs.declared.place.Place.{Place}
use Rattle.cxx_tree.specs.declared.node.Node.{Node}
use Rattle.cxx_tree.specs.declared.node.Placed.{Placed}
use Rattle.cxx_tree.specs.declared.expr.Base.{Base}
use Rattle.cxx_tree.specs.declared.expr.Base.TheVariants as base_of
use Rattle.cxx_tree.specs.declared.expr.Callee.{Callee}
use Rattle.cxx_tree.specs.declared.expr.Callee.TheVariants as callee_of
use Rattle.cxx_tree.specs.declared.expr.Left.{Left}
use Rattle.cxx_tree.specs.declared.expr.Left.TheVariants as left_of
use Rattle.cxx_tree.specs.declared.program.TypeName.{TypeName}
use Rattle.cxx_tree.specs.declared.program.TypeName.TheVariants as type_name
use Rattle.cxx_tree.specs.ExprTree as e
use Rattle.cxx_tree.specs.ExprTree.{ExprTree, ExprTrees}
use Rattle.cxx_tree.specs.Places.{expr_node}
use Rattle.cxx_names.specs.declared.declarations.Signature.{Signature}
use Rattle.cxx_names.specs.LookUp.{free_signature}
use Rattle.cxx_types.specs.declared.context.Holder.{Holder}
use Rattle.cxx_types.specs.declared.context.Holder.TheVariants as holder
use Rattle.cxx_types.specs.declared.context.Owner.{Owner}
use Rattle.cxx_types.specs.declared.context.Owner.TheVariants as owner
use Rattle.cxx_types.specs.Classes.{of_member, either, is_pointer}
use Rattle.cxx_rules.specs.Sites.{Site, variable_meant, holder_of, is_of_threads, is_of_mutexes, function_meant}
use Rattle.cxx_rules.specs.Forms as form
use Rattle.cxx_rules.specs.Forms.{Form}
use Rattle.cxx_rules.specs.Unless.{unless}

-- `this` stands in functions of classes alone
abbrev pub this_outside : Site → Place → Option Place
this_outside w at = unless (is_some w.context.class) at

abbrev pub base_outside : Site → Place → Base → Option Place
base_outside w at base_of.This = this_outside w at
base_outside w at _ = None

-- the functions of threads and mutexes are called, as statements alone
abbrev pub no_member_value : Site → Place → Placed NameId → Holder → Option Place
no_member_value w at name holder.Thread = unless (not (is_of_threads w name)) at
no_member_value w at name holder.Mutex = unless (not (is_of_mutexes w name)) at
no_member_value w at name _ = None

abbrev pub statement_alone : Node → Bool → Bool → Option Place
statement_alone n as_value is_function = unless (if is_function then not as_value else true) n.at

abbrev pub no_call_value : Site → Node → Placed NameId → Bool → Holder → Option Place
no_call_value w n name as_value holder.Thread = statement_alone n as_value (is_of_threads w name)
no_call_value w n name as_value holder.Mutex = statement_alone n as_value (is_of_mutexes w name)
no_call_value w n name as_value _ = None

-- `main` is called by nobody
abbrev pub main_called : Place → Option (Option ClassId × Signature) → Option Place
main_called at None = None
main_called at (Some f) = unless (not f.1.is_main) at

abbrev pub main_started : Place → Option Signature → Option Place
main_started at None = None
main_started at (Some f) = unless (not f.is_main) at

abbrev pub call_not_allowed : Site → Node → Callee → Bool → Option Place
call_not_allowed w n (callee_of.Bare r) as_value = main_called n.at (function_meant w r)
call_not_allowed w n (callee_of.Member q) as_value = no_call_value w n q.name as_value (holder_of w q.base)

-- `void` is the type of a result alone
abbrev pub void_variable : Place → TypeName → Option Place
void_variable at type_name.Void = Some at
void_variable at _ = None

abbrev pub return_not_allowed : Place → Owner → Option Place
return_not_allowed at owner.Lifecycle = Some at
return_not_allowed at _ = None

abbrev pub left_names_member : Site → Left → Bool
left_names_member w (left_of.Name r) = of_member (variable_meant w r)
left_names_member w (left_of.Member n q) = true
left_names_member w (left_of.Result n) = false

abbrev mutual
  -- whether an expression names a member or calls a function
  pub uses_members : Site → ExprTree → Bool
  uses_members w (e.lit n number) = false
  uses_members w (e.flag n is_set) = false
  uses_members w (e.null n) = false
  uses_members w (e.this n) = false
  uses_members w (e.left l) = left_names_member w l
  uses_members w (e.unary n o operand) = uses_members w operand
  uses_members w (e.binary n o a b) = either (uses_members w a) (uses_members w b)
  uses_members w (e.paren n inner) = uses_members w inner
  uses_members w (e.cast n t operand) = uses_members w operand
  uses_members w (e.call k) = true
  uses_members w (e.new n class) = false
  uses_members w (e.new_with n class arguments) = any_uses_members w arguments

  pub any_uses_members : Site → ExprTrees → Bool
  any_uses_members w e.no_exprs = false
  any_uses_members w (e.more_exprs first rest) = either (uses_members w first) (any_uses_members w rest)

abbrev pub not_allowed_here_at : Form → Option Place
not_allowed_here_at (form.own w n) = this_outside w n.at
not_allowed_here_at (form.base w at b) = base_outside w at b
not_allowed_here_at (form.member w at q) = no_member_value w at q.name (holder_of w q.base)
not_allowed_here_at (form.call w n callee count as_value) = call_not_allowed w n callee as_value
not_allowed_here_at (form.variable_type w t) = void_variable t.at t.item
not_allowed_here_at (form.returned w at e) = return_not_allowed at w.context.owner
not_allowed_here_at (form.thread outermost at) = unless outermost at
not_allowed_here_at (form.started w at r) = main_started at (free_signature w.declared r.name.item.0)
not_allowed_here_at (form.base_argument w x) = unless (not (uses_members w x)) (expr_node x).at
not_allowed_here_at (form.member_type name t) = unless (not (is_pointer t)) name.at
not_allowed_here_at _ = None
