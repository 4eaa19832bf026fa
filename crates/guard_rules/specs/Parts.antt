-- What is known where a program is protected, and which classes have a part: those that are guarded and declare at least
-- one member.
use Rattle.std.specs.Borrow.{Bor}
use Rattle.std.specs.Prelude.{ℕ, Bool, false, List, [], ◌∷◌, ◌++◌, length, nat_lt, Option, Some, None, is_some, if◌then◌else◌}
use Rattle.std.specs.List.{list_any}
use Rattle.agxx_base.specs.declared.ids.ClassId.{ClassId}
use Rattle.agxx_base.specs.declared.ids.NameId.{NameId}
use Rattle.agxx_base.specs.declared.place.Place.{Place}
use Rattle.cxx_names.specs.declared.declarations.ClassInfo.{ClassInfo}
use Rattle.cxx_names.specs.declared.declarations.Declared.{Declared}
use Rattle.cxx_names.specs.Declarations.{class_at}
use Rattle.cxx_names.specs.LookUp.{lineage}
use Rattle.cxx_names.specs.Tables.{with_name}
use Rattle.cxx_types.specs.declared.entry.Entry.{Entry}
use Rattle.cxx_rules.specs.Unless.{with_place}
use Rattle.guards.specs.declared.guard.Guard.{Guard}
use Rattle.guards.specs.Guarding.{guard_of}

pub record Known : Type 0 where
  pub guards : List Guard
  -- what the program declares
  pub declared : Declared
  -- what is known of its nodes
  pub entries : List Entry

abbrev pub place_of : Guard → Place
place_of g = g.at

-- each guarded class with the place of its first guard, behind these
abbrev pub first_places : List (ℕ × Place) → List Guard → List (ℕ × Place)
first_places places [] = places
first_places places (g ∷ gs) = first_places (with_name places g.class.0 g.at) gs

abbrev pub is_guarded : List Guard → NameId → Bool
is_guarded guards class = is_some (guard_of guards class)

abbrev pub info_is_guarded : List Guard → Option ClassInfo → Bool
info_is_guarded guards None = false
info_is_guarded guards (Some class) = is_guarded guards class.name.item

abbrev pub class_is_guarded : List Guard → Declared → ClassId → Bool
class_is_guarded guards d class = info_is_guarded guards (class_at d class)

abbrev pub info_has_part : List Guard → Option ClassInfo → Bool
info_has_part guards None = false
info_has_part guards (Some class) = if is_guarded guards class.name.item then nat_lt 0 (length class.members) else false

abbrev pub has_part : List Guard → Declared → ClassId → Bool
has_part guards d class = info_has_part guards (class_at d class)

-- objects of a class have a part of the class itself or of one above it
abbrev pub holds_part : List Guard → Declared → ClassId → Bool
holds_part guards d class = list_any (has_part guards d) (lineage d class)

-- the class of a number
abbrev pub numbered : ℕ → ClassId
numbered class = record { 0 = class }

-- what a reference points to
abbrev pub lent : Bor ClassInfo → ClassInfo
lent r = r.now

-- ---- places

abbrev pub place_where : Bool → Place → Option Place
place_where holds at = if holds then Some at else None

-- the places that these give, if they do
abbrev pub places_of : {A : Type 0} → (A → Option Place) → List A → List Place
places_of place [] = []
places_of place (x ∷ xs) = with_place (place x) (places_of place xs)

-- all places in these
abbrev pub in_each : {A : Type 0} → (A → List Place) → List A → List Place
in_each places [] = []
in_each places (x ∷ xs) = places x ++ in_each places xs
