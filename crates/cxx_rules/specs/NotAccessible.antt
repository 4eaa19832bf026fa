-- N6: a name is private or protected, and used where it may not be. The place is the name's; for constructors and
-- destructors that of the class behind `new`, of the object, of `delete`, or of the derived class.
use Rattle.std.specs.Prelude.{Option, Some, None}
use Rattle.agxx_base.specs.declared.ids.ClassId.{ClassId}
use Rattle.agxx_base.specs.declared.ids.NameId.{NameId}
use Rattle.agxx_base.specs.declared.place.Place.{Place}
use Rattle.cxx_tree.specs.declared.node.Placed.{Placed}
use Rattle.cxx_tree.specs.declared.expr.Base.{Base}
use Rattle.cxx_tree.specs.declared.expr.Base.TheVariants as base_of
use Rattle.cxx_tree.specs.declared.expr.Callee.{Callee}
use Rattle.cxx_tree.specs.declared.expr.Callee.TheVariants as callee_of
use Rattle.cxx_tree.specs.declared.expr.Ref.{Ref}
use Rattle.cxx_names.specs.declared.declarations.MemberInfo.{MemberInfo}
use Rattle.cxx_names.specs.declared.declarations.Signature.{Signature}
use Rattle.cxx_names.specs.declared.types.ValueType.{ValueType}
use Rattle.cxx_names.specs.declared.types.ValueType.TheVariants as value
use Rattle.cxx_types.specs.declared.context.Holder.{Holder}
use Rattle.cxx_types.specs.declared.context.Holder.TheVariants as holder
use Rattle.cxx_types.specs.Calls.{access_of}
use Rattle.cxx_types.specs.Classes.{is_derivable, base_ctor_in, base_dtor_in}
use Rattle.cxx_types.specs.Expressions.{both}
use Rattle.cxx_rules.specs.Sites.{Site, variable_is_usable, holder_of, member_meant, member_is_usable, method_meant, method_is_usable, function_meant, class_meant, ctor_meant, dtor_meant, is_usable}
use Rattle.cxx_rules.specs.Types.{type_of_expr}
use Rattle.cxx_rules.specs.Forms as form
use Rattle.cxx_rules.specs.Forms.{Form}
use Rattle.cxx_rules.specs.Unless.{unless}

abbrev pub variable_not_accessible : Site → Ref → Option Place
variable_not_accessible w r = unless (variable_is_usable w r) r.name.at

abbrev pub base_not_accessible : Site → Base → Option Place
base_not_accessible w base_of.This = None
base_not_accessible w (base_of.Dot r) = variable_not_accessible w r
base_not_accessible w (base_of.Arrow r) = variable_not_accessible w r

abbrev pub member_not_accessible_by : Site → Place → ClassId → Option (ClassId × MemberInfo) → Option Place
member_not_accessible_by w at class None = None
member_not_accessible_by w at class (Some m) = unless (member_is_usable w class m) at

abbrev pub member_not_accessible : Site → Placed NameId → Holder → Option Place
member_not_accessible w name (holder.Class class) = member_not_accessible_by w name.at class (member_meant w class name)
member_not_accessible w name _ = None

abbrev pub method_not_accessible_by : Site → Place → ClassId → Option (ClassId × Signature) → Option Place
method_not_accessible_by w at class None = None
method_not_accessible_by w at class (Some f) = unless (method_is_usable w class f) at

abbrev pub method_not_accessible : Site → Placed NameId → Holder → Option Place
method_not_accessible w name (holder.Class class) = method_not_accessible_by w name.at class (method_meant w class name)
method_not_accessible w name _ = None

abbrev pub function_not_accessible : Site → Place → Option (Option ClassId × Signature) → Option Place
function_not_accessible w at None = None
function_not_accessible w at (Some f) = unless (access_of w.declared w.context.class f) at

abbrev pub callee_not_accessible : Site → Callee → Option Place
callee_not_accessible w (callee_of.Bare r) = function_not_accessible w r.name.at (function_meant w r)
callee_not_accessible w (callee_of.Member q) = method_not_accessible w q.name (holder_of w q.base)

abbrev pub constructor_not_accessible : Site → Place → Option ClassId → Option Place
constructor_not_accessible w at None = None
constructor_not_accessible w at (Some class) = unless (is_usable w class (ctor_meant w class)) at

abbrev pub destructor_not_accessible : Site → Place → Option ClassId → Option Place
destructor_not_accessible w at None = None
destructor_not_accessible w at (Some class) = unless (is_usable w class (dtor_meant w class)) at

abbrev pub deleted_not_accessible : Site → Place → Option ValueType → Option Place
deleted_not_accessible w at (Some (value.Pointer class)) = destructor_not_accessible w at (Some class)
deleted_not_accessible w at _ = None

abbrev pub not_accessible_at : Form → Option Place
not_accessible_at (form.variable w r) = variable_not_accessible w r
not_accessible_at (form.base w at b) = base_not_accessible w b
not_accessible_at (form.member w at q) = member_not_accessible w q.name (holder_of w q.base)
not_accessible_at (form.call w n callee count as_value) = callee_not_accessible w callee
not_accessible_at (form.creation w name count) = constructor_not_accessible w name.at (class_meant w name)
not_accessible_at (form.deleted w at e) = deleted_not_accessible w at (type_of_expr w e)
not_accessible_at (form.head w base class) = unless (both (is_derivable (base_ctor_in w.declared class)) (is_derivable (base_dtor_in w.declared class))) class.name.at
not_accessible_at (form.object w o) = constructor_not_accessible w o.name.at (class_meant w o.class)
not_accessible_at (form.object_end w o) = destructor_not_accessible w o.name.at (class_meant w o.class)
not_accessible_at _ = None
