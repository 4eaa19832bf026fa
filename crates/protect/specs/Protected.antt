-- The protected program: each function of a class enters the parts of its objects and leaves them, and each guarded class
-- gets its part at its end, public. All else stays as it is.
use Rattle.std.specs.Prelude.{ℕ, List, [], ◌∷◌, ◌++◌, map, Option, Some, None, if◌then◌else◌}
use Rattle.agxx_base.specs.declared.ids.NameId.{NameId}
use Rattle.agxx_base.specs.declared.place.Place.{Place}
use Rattle.cxx_tree.specs.declared.program.Access.{Access}
use Rattle.cxx_tree.specs.declared.program.Access.TheVariants as access_of
use Rattle.cxx_tree.specs.declared.program.TypeName.TheVariants as type_of
use Rattle.cxx_tree.specs.ProgramTree as p
use Rattle.cxx_tree.specs.ProgramTree.{FunctionTree, CtorTree, DtorTree, ItemTree, ClassTree, DeclTree, ProgramTree}
use Rattle.cxx_names.specs.declared.declarations.Declared.{Declared}
use Rattle.cxx_names.specs.Declarations.{declared, default_access}
use Rattle.cxx_normal.specs.Labels.{same_access}
use Rattle.guards.specs.declared.guard.Guard.{Guard}
use Rattle.guards.specs.declared.guard.GuardKind.{GuardKind}
use Rattle.guards.specs.declared.guard.GuardKind.TheVariants as guard
use Rattle.codec.specs.declared.part.Part.{Part}
use Rattle.codec.specs.Codes.{Code}
use Rattle.codec.specs.Copies.{copies}
use Rattle.hamming_gen.specs.Hamming.{hamming}
use Rattle.entry_count.specs.PartCode.{part_members, part_functions}
use Rattle.entry_count.specs.Wrapping.{wrapped_body}
use Rattle.protect.specs.GuardedParts.{part_of, guarded_parts, parts_named}

abbrev pub code_of : GuardKind → Code
code_of guard.Copies = copies
code_of guard.Hamming = hamming

-- ---- functions

module _ (names : List (List ℕ)) (parts : List NameId) where
  abbrev pub wrapped_function : FunctionTree → FunctionTree
  wrapped_function f = record f { body = wrapped_body names f.result.item parts f.body }

  abbrev pub wrapped_ctor : CtorTree → CtorTree
  wrapped_ctor c = record c { body = wrapped_body names type_of.Void parts c.body }

  abbrev pub wrapped_dtor : DtorTree → DtorTree
  wrapped_dtor d = record d { body = wrapped_body names type_of.Void parts d.body }

  abbrev pub wrapped_item : ItemTree → ItemTree
  wrapped_item (p.label at access) = p.label at access
  wrapped_item (p.member m) = p.member m
  wrapped_item (p.function f) = p.function (wrapped_function f)
  wrapped_item (p.ctor c) = p.ctor (wrapped_ctor c)
  wrapped_item (p.dtor d) = p.dtor (wrapped_dtor d)

-- ---- classes

-- the access in force behind items, where this one is before them
abbrev pub last_access : Access → List ItemTree → Access
last_access access [] = access
last_access access (p.label at next ∷ rest) = last_access next rest
last_access access (p.member m ∷ rest) = last_access access rest
last_access access (p.function f ∷ rest) = last_access access rest
last_access access (p.ctor c ∷ rest) = last_access access rest
last_access access (p.dtor d ∷ rest) = last_access access rest

-- the label `public:`, unless that access is in force
abbrev pub opening : Place → Access → List ItemTree
opening at shown = if same_access shown access_of.Public then [] else p.label at access_of.Public ∷ []

unfoldable pub part_items : Code → List (List ℕ) → Part → List ItemTree
part_items code names part = map p.member (part_members code names part) ++ map p.function (part_functions code names part)

-- the items that are added to a class with this part, if it has one
abbrev pub added : List (List ℕ) → ClassTree → Option (GuardKind × Part) → List ItemTree
added names c None = []
added names c (Some (kind, part)) = opening c.at (last_access (default_access c.word) c.items) ++ part_items (code_of kind) names part

-- where objects have these parts, by the numbers of classes
module _ (names : List (List ℕ)) (guards : List Guard) (d : Declared) (parts : List (List NameId)) where
  abbrev pub protected_class : ClassTree → ClassTree
  protected_class c = record c {
    items = map (wrapped_item names (parts_named d parts c.name.item)) c.items ++ added names c (part_of guards c);
  }

  abbrev pub protected_decl : DeclTree → DeclTree
  protected_decl (p.class c) = p.class (protected_class c)
  protected_decl (p.class_name c) = p.class_name c
  protected_decl (p.free_function f) = p.free_function f
  protected_decl (p.proto f) = p.proto f
  protected_decl (p.global g) = p.global g

abbrev pub protected_decls : List (List ℕ) → List Guard → Declared → List DeclTree → List DeclTree
protected_decls names guards d decls = map (protected_decl names guards d (guarded_parts guards d)) decls

-- of a program in normal form, where names have these texts, those that are generated among them
abbrev pub protected : List (List ℕ) → List Guard → ProgramTree → ProgramTree
protected names guards q = record q { decls = protected_decls names guards (declared names q) q.decls }
