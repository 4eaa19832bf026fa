-- The classes with a part in an object, by the object's class. A class has one if it declares a member that is named
-- after it: `__gop_n_`, and then the class's own name.
use Rattle.std.specs.Prelude.{ℕ, Bool, false, List, [], ◌∷◌, ◌++◌, Option, Some, None, slice_get, if◌then◌else◌, codes}
use Rattle.std.specs.List.{list_any}
use Rattle.agxx_base.specs.declared.ids.ClassId.{ClassId}
use Rattle.cxx_names.specs.declared.declarations.MemberInfo.{MemberInfo}
use Rattle.cxx_names.specs.declared.declarations.ClassInfo.{ClassInfo}
use Rattle.cxx_names.specs.declared.declarations.Declared.{Declared}
use Rattle.cxx_names.specs.Declarations.{is_text}
use Rattle.cxx_layout.specs.Layouts.{inherited, next_class}

-- the name of the member of a class of this name
abbrev pub part_name : List ℕ → List ℕ
part_name text = codes "__gop_n_" ++ text

-- whether one of the members has this text as its name
abbrev pub has_member : List (List ℕ) → List ℕ → List (ℕ × MemberInfo) → Bool
has_member names text members = list_any (λ m. is_text names m.0 text) members

abbrev pub has_part_by : List (List ℕ) → Option (List ℕ) → List (ℕ × MemberInfo) → Bool
has_part_by names None members = false
has_part_by names (Some text) members = has_member names (part_name text) members

-- whether a class itself declares a part
abbrev pub has_part : List (List ℕ) → ClassInfo → Bool
has_part names class = has_part_by names (slice_get names class.name.item.0) class.members

-- a class, if it has a part
abbrev pub own_part : List (List ℕ) → ClassId → ClassInfo → List ClassId
own_part names number class = if has_part names class then number ∷ [] else []

abbrev pub with_parts : List (List ℕ) → List (List ClassId) → ClassInfo → List (List ClassId)
with_parts names done class = done ++ (inherited done class.base ++ own_part names (next_class done) class) ∷ []

abbrev pub parts_after : List (List ℕ) → List (List ClassId) → List ClassInfo → List (List ClassId)
parts_after names done [] = done
parts_after names done (class ∷ classes) = parts_after names (with_parts names done class) classes

-- the classes with a part in an object, for all classes by their numbers
abbrev pub all_parts : List (List ℕ) → Declared → List (List ClassId)
all_parts names d = parts_after names [] d.classes

-- the classes with a part in an object of a class, the one without a base first
abbrev pub parts : List (List ℕ) → Declared → ClassId → Option (List ClassId)
parts names d class = slice_get (all_parts names d) class.0
