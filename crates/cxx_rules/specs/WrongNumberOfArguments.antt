-- N4: arguments and parameters differ in number, a missing list being empty; the initialiser of a member has not one
-- argument. The place is the name of what is called, created or initialised.
use Rattle.std.specs.Prelude.{ℕ, Bool, true, nat_eq, Option, Some, None, if◌then◌else◌}
use Rattle.agxx_base.specs.declared.ids.ClassId.{ClassId}
use Rattle.agxx_base.specs.declared.ids.NameId.{NameId}
use Rattle.agxx_base.specs.declared.place.Place.{Place}
use Rattle.cxx_tree.specs.declared.node.Placed.{Placed}
use Rattle.cxx_tree.specs.declared.expr.Callee.{Callee}
use Rattle.cxx_tree.specs.declared.expr.Callee.TheVariants as callee_of
use Rattle.cxx_names.specs.declared.declarations.ClassInfo.{ClassInfo}
use Rattle.cxx_names.specs.declared.declarations.MemberInfo.{MemberInfo}
use Rattle.cxx_names.specs.declared.declarations.Signature.{Signature}
use Rattle.cxx_names.specs.LookUp.{free_signature}
use Rattle.cxx_names.specs.Tables.{named}
use Rattle.cxx_types.specs.declared.context.Holder.{Holder}
use Rattle.cxx_types.specs.declared.context.Holder.TheVariants as holder
use Rattle.cxx_types.specs.Calls.{counts}
use Rattle.cxx_types.specs.Classes.{base_params, base_ctor_in}
use Rattle.cxx_types.specs.Expressions.{count}
use Rattle.cxx_rules.specs.Sites.{Site, holder_of, method_meant, is_of_threads, is_of_mutexes, function_meant, class_meant, ctor_meant}
use Rattle.cxx_rules.specs.Forms as form
use Rattle.cxx_rules.specs.Forms.{Form}
use Rattle.cxx_rules.specs.Unless.{unless}

abbrev pub wrong_number_by : Place → ℕ → Option Signature → Option Place
wrong_number_by at arguments None = None
wrong_number_by at arguments (Some f) = unless (counts arguments f.params) at

abbrev pub function_wrong_number : Place → ℕ → Option (Option ClassId × Signature) → Option Place
function_wrong_number at arguments None = None
function_wrong_number at arguments (Some f) = unless (counts arguments f.1.params) at

abbrev pub method_wrong_number : Place → ℕ → Option (ClassId × Signature) → Option Place
method_wrong_number at arguments None = None
method_wrong_number at arguments (Some f) = unless (counts arguments f.1.params) at

-- the functions of threads and mutexes take none
abbrev pub taking_none : Placed NameId → ℕ → Bool → Option Place
taking_none name arguments is_function = unless (if is_function then nat_eq arguments 0 else true) name.at

abbrev pub behind_wrong_number : Site → Placed NameId → ℕ → Holder → Option Place
behind_wrong_number w name arguments (holder.Class class) = method_wrong_number name.at arguments (method_meant w class name)
behind_wrong_number w name arguments holder.Thread = taking_none name arguments (is_of_threads w name)
behind_wrong_number w name arguments holder.Mutex = taking_none name arguments (is_of_mutexes w name)
behind_wrong_number w name arguments holder.Unknown = None

abbrev pub call_wrong_number : Site → Callee → ℕ → Option Place
call_wrong_number w (callee_of.Bare r) arguments = function_wrong_number r.name.at arguments (function_meant w r)
call_wrong_number w (callee_of.Member q) arguments = behind_wrong_number w q.name arguments (holder_of w q.base)

abbrev pub creation_wrong_number : Site → Place → ℕ → Option ClassId → Option Place
creation_wrong_number w at arguments None = None
creation_wrong_number w at arguments (Some class) = wrong_number_by at arguments (ctor_meant w class)

abbrev pub base_wrong_number : Site → ClassInfo → Place → ℕ → Option Place
base_wrong_number w class at arguments = unless (counts arguments (base_params (base_ctor_in w.declared class))) at

-- a member is given one value
abbrev pub member_wrong_number : Place → ℕ → Option MemberInfo → Option Place
member_wrong_number at arguments None = None
member_wrong_number at arguments (Some m) = unless (nat_eq arguments 1) at

abbrev pub wrong_number_of_arguments_at : Form → Option Place
wrong_number_of_arguments_at (form.call w n callee arguments as_value) = call_wrong_number w callee arguments
wrong_number_of_arguments_at (form.creation w name arguments) = creation_wrong_number w name.at arguments (class_meant w name)
wrong_number_of_arguments_at (form.started_with w r arguments) = wrong_number_by r.name.at arguments (free_signature w.declared r.name.item.0)
wrong_number_of_arguments_at (form.base_initialiser w class name arguments) = base_wrong_number w class name.at arguments
wrong_number_of_arguments_at (form.member_initialiser w class name arguments) = member_wrong_number name.at arguments (named class.members name.item.0)
wrong_number_of_arguments_at (form.without_initialiser w class name) = base_wrong_number w class name.at 0
wrong_number_of_arguments_at (form.object w o) = creation_wrong_number w o.name.at (count o.arguments) (class_meant w o.class)
wrong_number_of_arguments_at _ = None
