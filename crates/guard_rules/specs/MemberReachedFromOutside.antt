-- P1: a member that a guarded class declares is reached otherwise than by its bare name or by `this->`. The place is the
-- member's name.
use Rattle.std.specs.Prelude.{ℕ, Bool, false, List, Option, Some, None}
use Rattle.agxx_base.specs.declared.ids.ClassId.{ClassId}
use Rattle.agxx_base.specs.declared.ids.NameId.{NameId}
use Rattle.agxx_base.specs.declared.place.Place.{Place}
use Rattle.cxx_tree.specs.declared.node.Placed.{Placed}
use Rattle.cxx_tree.specs.declared.expr.Base.{Base}
use Rattle.cxx_tree.specs.declared.expr.Base.TheVariants as base_of
use Rattle.cxx_tree.specs.ProgramTree.{ProgramTree}
use Rattle.cxx_names.specs.declared.declarations.Declared.{Declared}
use Rattle.cxx_names.specs.declared.declarations.MemberInfo.{MemberInfo}
use Rattle.cxx_types.specs.declared.context.Holder.{Holder}
use Rattle.cxx_types.specs.declared.context.Holder.TheVariants as holder
use Rattle.cxx_rules.specs.Sites.{Site, holder_of, member_meant}
use Rattle.cxx_rules.specs.Forms as form
use Rattle.cxx_rules.specs.Forms.{Form}
use Rattle.cxx_rules.specs.ProgramForms.{forms_of_program}
use Rattle.cxx_rules.specs.Unless.{places_in}
use Rattle.guards.specs.declared.guard.Guard.{Guard}
use Rattle.guard_rules.specs.Parts.{class_is_guarded, place_where}

-- the member behind what has members, with the class that declares it
abbrev pub member_of : Site → Placed NameId → Holder → Option (ClassId × MemberInfo)
member_of w name (holder.Class class) = member_meant w class name
member_of w name _ = None

abbrev pub declared_by_guarded : List Guard → Declared → Option (ClassId × MemberInfo) → Bool
declared_by_guarded guards d None = false
declared_by_guarded guards d (Some m) = class_is_guarded guards d m.0

abbrev pub reached_behind_at : List Guard → Site → Placed NameId → Base → Option Place
reached_behind_at guards w name base_of.This = None
reached_behind_at guards w name b = place_where (declared_by_guarded guards w.declared (member_of w name (holder_of w b))) name.at

abbrev pub member_reached_at : List Guard → Form → Option Place
member_reached_at guards (form.member w at q) = reached_behind_at guards w q.name q.base
member_reached_at guards _ = None

abbrev pub member_reached : List (List ℕ) → List Guard → ProgramTree → List Place
member_reached names guards q = places_in (member_reached_at guards) (forms_of_program names q)
