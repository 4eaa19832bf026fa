-- N1: a name is nothing by its look-up, a class name is no class, an initialiser names no member of the class, or a
-- constructor or destructor has another name than its class. The place is the name's.
use Rattle.std.specs.Prelude.{Option, None, is_some}
use Rattle.agxx_base.specs.declared.ids.NameId.{NameId}
use Rattle.agxx_base.specs.declared.place.Place.{Place}
use Rattle.cxx_tree.specs.declared.node.Placed.{Placed}
use Rattle.cxx_tree.specs.declared.expr.Base.{Base}
use Rattle.cxx_tree.specs.declared.expr.Base.TheVariants as base_of
use Rattle.cxx_tree.specs.declared.expr.Callee.{Callee}
use Rattle.cxx_tree.specs.declared.expr.Callee.TheVariants as callee_of
use Rattle.cxx_tree.specs.declared.expr.Ref.{Ref}
use Rattle.cxx_tree.specs.declared.program.TypeName.{TypeName}
use Rattle.cxx_tree.specs.declared.program.TypeName.TheVariants as type_name
use Rattle.cxx_names.specs.Declarations.{class_named}
use Rattle.cxx_names.specs.LookUp.{free_signature}
use Rattle.cxx_names.specs.Tables.{named}
use Rattle.cxx_types.specs.declared.context.Holder.{Holder}
use Rattle.cxx_types.specs.declared.context.Holder.TheVariants as holder
use Rattle.cxx_types.specs.Classes.{same_name}
use Rattle.cxx_rules.specs.Sites.{Site, variable_meant, holder_of, member_meant, method_meant, is_of_threads, is_of_mutexes, function_meant, class_meant}
use Rattle.cxx_rules.specs.Forms as form
use Rattle.cxx_rules.specs.Forms.{Form}
use Rattle.cxx_rules.specs.Unless.{unless}

abbrev pub unknown_variable : Site → Ref → Option Place
unknown_variable w r = unless (is_some (variable_meant w r)) r.name.at

abbrev pub unknown_base : Site → Base → Option Place
unknown_base w base_of.This = None
unknown_base w (base_of.Dot r) = unknown_variable w r
unknown_base w (base_of.Arrow r) = unknown_variable w r

-- behind what has members: of a class its members and those of the classes above it
abbrev pub unknown_member : Site → Placed NameId → Holder → Option Place
unknown_member w name (holder.Class class) = unless (is_some (member_meant w class name)) name.at
unknown_member w name holder.Thread = unless (is_of_threads w name) name.at
unknown_member w name holder.Mutex = unless (is_of_mutexes w name) name.at
unknown_member w name holder.Unknown = None

abbrev pub unknown_method : Site → Placed NameId → Holder → Option Place
unknown_method w name (holder.Class class) = unless (is_some (method_meant w class name)) name.at
unknown_method w name holder.Thread = unless (is_of_threads w name) name.at
unknown_method w name holder.Mutex = unless (is_of_mutexes w name) name.at
unknown_method w name holder.Unknown = None

abbrev pub unknown_callee : Site → Callee → Option Place
unknown_callee w (callee_of.Bare r) = unless (is_some (function_meant w r)) r.name.at
unknown_callee w (callee_of.Member q) = unknown_method w q.name (holder_of w q.base)

-- the class behind a pointer
abbrev pub unknown_pointed : Site → Placed TypeName → TypeName → Option Place
unknown_pointed w t (type_name.Pointer class) = unless (is_some (class_named w.declared class.0)) t.at
unknown_pointed w t _ = None

abbrev pub unknown_name_at : Form → Option Place
unknown_name_at (form.variable w r) = unknown_variable w r
unknown_name_at (form.base w at b) = unknown_base w b
unknown_name_at (form.member w at q) = unknown_member w q.name (holder_of w q.base)
unknown_name_at (form.call w n callee count as_value) = unknown_callee w callee
unknown_name_at (form.creation w name count) = unless (is_some (class_meant w name)) name.at
unknown_name_at (form.variable_type w t) = unknown_pointed w t t.item
unknown_name_at (form.result_type w t) = unknown_pointed w t t.item
unknown_name_at (form.started w at r) = unless (is_some (free_signature w.declared r.name.item.0)) r.name.at
unknown_name_at (form.member_initialiser w class name count) = unless (is_some (named class.members name.item.0)) name.at
unknown_name_at (form.lifecycle class name) = unless (same_name class.name.item name) name.at
unknown_name_at (form.object w o) = unless (is_some (class_meant w o.class)) o.class.at
unknown_name_at _ = None
