-- Which classes have parts, and which parts an object has: a guarded class that declares a member has one, and an object
-- has those of its class and of the classes above it.
use Rattle.std.specs.Prelude.{ℕ, List, [], ◌∷◌, ◌++◌, Option, Some, None, slice_get}
use Rattle.agxx_base.specs.declared.ids.ClassId.{ClassId}
use Rattle.agxx_base.specs.declared.ids.NameId.{NameId}
use Rattle.cxx_tree.specs.declared.node.Placed.{Placed}
use Rattle.cxx_tree.specs.declared.program.Member.{Member}
use Rattle.cxx_tree.specs.ProgramTree as p
use Rattle.cxx_tree.specs.ProgramTree.{ItemTree, ClassTree}
use Rattle.std.specs.List.{flat_map}
use Rattle.cxx_names.specs.declared.declarations.ClassInfo.{ClassInfo}
use Rattle.cxx_names.specs.declared.declarations.Declared.{Declared}
use Rattle.cxx_names.specs.declared.declarations.MemberInfo.{MemberInfo}
use Rattle.cxx_names.specs.Declarations.{class_named}
use Rattle.cxx_layout.specs.Layouts.{inherited, list_by}
use Rattle.guards.specs.declared.guard.Guard.{Guard}
use Rattle.guards.specs.declared.guard.GuardKind.{GuardKind}
use Rattle.guards.specs.Guarding.{kind_of}
use Rattle.codec.specs.declared.part.Part.{Part}

-- ---- the part of a class

abbrev pub members_in : ItemTree → List Member
members_in (p.label at access) = []
members_in (p.member m) = m ∷ []
members_in (p.function f) = []
members_in (p.ctor c) = []
members_in (p.dtor d) = []

-- the members that a class itself declares
abbrev pub members_of : ClassTree → List Member
members_of c = flat_map members_in c.items

-- with this guard, where there is a member
abbrev pub part_with : Placed NameId → Option GuardKind → List Member → Option (GuardKind × Part)
part_with class None members = None
part_with class (Some guard) [] = None
part_with class (Some guard) (m ∷ ms) = Some (guard, record { class = class; members = m ∷ ms })

abbrev pub part_of : List Guard → ClassTree → Option (GuardKind × Part)
part_of guards c = part_with c.name (kind_of guards c.name.item) (members_of c)

-- ---- the parts of objects, by the names of their classes

abbrev pub if_guarded : Option GuardKind → NameId → List NameId
if_guarded None class = []
if_guarded (Some guard) class = class ∷ []

abbrev pub if_any : List (ℕ × MemberInfo) → List NameId → List NameId
if_any [] classes = []
if_any (m ∷ ms) classes = classes

abbrev pub own_part : List Guard → ClassInfo → List NameId
own_part guards info = if_any info.members (if_guarded (kind_of guards info.name.item) info.name.item)

-- behind the parts of the classes before a class, its own ones: its base's, and its own
abbrev pub with_parts : List Guard → List (List NameId) → ClassInfo → List (List NameId)
with_parts guards done info = done ++ (inherited done info.base ++ own_part guards info) ∷ []

abbrev pub parts_after : List Guard → List (List NameId) → List ClassInfo → List (List NameId)
parts_after guards done [] = done
parts_after guards done (info ∷ infos) = parts_after guards (with_parts guards done info) infos

-- by the numbers of classes
abbrev pub guarded_parts : List Guard → Declared → List (List NameId)
guarded_parts guards d = parts_after guards [] d.classes

abbrev pub parts_by : List (List NameId) → Option ClassId → List NameId
parts_by lists None = []
parts_by lists (Some class) = list_by (slice_get lists class.0)

-- of a class of this name, the topmost first
abbrev pub parts_named : Declared → List (List NameId) → NameId → List NameId
parts_named d lists class = parts_by lists (class_named d class.0)
