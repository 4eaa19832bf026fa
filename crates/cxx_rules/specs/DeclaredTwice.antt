-- N2: the later of two things has the name of the earlier one: of two locals in scope, of two items of a class and those
-- above it, of two declarations, of two initialisers; a class has a second constructor or destructor; a member, function,
-- local or parameter has the name of a class. The place is the later name's.
use Rattle.std.specs.Prelude.{ℕ, Bool, false, not, Option, Some, None, is_some, nat_lt, if◌then◌else◌}
use Rattle.agxx_base.specs.declared.ids.ClassId.{ClassId}
use Rattle.agxx_base.specs.declared.ids.NameId.{NameId}
use Rattle.agxx_base.specs.declared.place.Place.{Place}
use Rattle.cxx_tree.specs.declared.node.Placed.{Placed}
use Rattle.cxx_names.specs.declared.declarations.ClassInfo.{ClassInfo}
use Rattle.cxx_names.specs.Declarations.{class_at}
use Rattle.cxx_names.specs.LookUp.{has_item, stands_before, is_declared_before}
use Rattle.cxx_names.specs.Tables.{named}
use Rattle.cxx_types.specs.Classes.{either}
use Rattle.cxx_rules.specs.Sites.{Site, class_meant}
use Rattle.cxx_rules.specs.Forms as form
use Rattle.cxx_rules.specs.Forms.{Form}
use Rattle.cxx_rules.specs.Unless.{unless}

abbrev pub info_of : Site → Option ClassId → Option ClassInfo
info_of w None = None
info_of w (Some class) = class_at w.declared class

-- of a class and such a thing the later name is refused
abbrev pub later_of : ℕ → Placed NameId → Option ClassInfo → Option Place
later_of index name None = None
later_of index name (Some class) = Some (if nat_lt index class.index then class.name.at else name.at)

-- a class above one, or its base, has an item of this name
abbrev pub is_inherited : Site → Option ClassId → Placed NameId → Bool
is_inherited w None name = false
is_inherited w (Some base) name = has_item w.declared base name.item.0

abbrev pub declared_twice_at : Form → Option Place
declared_twice_at (form.local_name w name) = unless (not (is_some (named w.scope name.item.0))) name.at
declared_twice_at (form.apart w name) = later_of w.context.index name (info_of w (class_meant w name))
declared_twice_at (form.initialiser before name) = unless (not (is_some (named before name.item.0))) name.at
declared_twice_at (form.second is_second name) = unless (not is_second) name.at
declared_twice_at (form.item_name w class index name) =
    unless (not (either (stands_before (named class.items name.item.0) index) (is_inherited w class.base name))) name.at
declared_twice_at (form.decl_name w index name) = unless (not (is_declared_before w.declared name.item.0 index)) name.at
declared_twice_at _ = None
