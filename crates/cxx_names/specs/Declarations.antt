-- The classes, functions and globals that a program declares, gone through in order of declaration. Of several things of
-- one name the first is meant. Classes have numbers of their own from 0; functions, constructors and destructors are
-- numbered together from 0.
use Rattle.std.specs.Prelude.{ℕ, suc, Bool, true, false, List, [], ◌∷◌, ◌++◌, length, Option, Some, None, slice_get, if◌then◌else◌, codes}
use Rattle.std.specs.Str.{bytes_eq}
use Rattle.agxx_base.specs.declared.ids.NameId.{NameId}
use Rattle.agxx_base.specs.declared.ids.ClassId.{ClassId}
use Rattle.cxx_tree.specs.declared.node.Placed.{Placed}
use Rattle.cxx_tree.specs.declared.program.TypeName.{TypeName}
use Rattle.cxx_tree.specs.declared.program.TypeName.TheVariants.{Void}
use Rattle.cxx_tree.specs.declared.program.Access.{Access}
use Rattle.cxx_tree.specs.declared.program.Access.TheVariants.{Public, Private}
use Rattle.cxx_tree.specs.declared.program.ClassWord.{ClassWord}
use Rattle.cxx_tree.specs.declared.program.ClassWord.TheVariants as class_word
use Rattle.cxx_tree.specs.declared.program.Member.{Member}
use Rattle.cxx_tree.specs.declared.program.Param.{Param}
use Rattle.cxx_tree.specs.ProgramTree as p
use Rattle.cxx_tree.specs.ProgramTree.{FunctionTree, ItemTree, ClassTree, GlobalTree, DeclTree, ProgramTree}
use Rattle.cxx_names.specs.declared.declarations.MemberInfo.{MemberInfo}
use Rattle.cxx_names.specs.declared.declarations.Signature.{Signature}
use Rattle.cxx_names.specs.declared.declarations.ClassInfo.{ClassInfo}
use Rattle.cxx_names.specs.declared.declarations.GlobalInfo.{GlobalInfo}
use Rattle.cxx_names.specs.declared.declarations.GlobalInfo.TheVariants as info
use Rattle.cxx_names.specs.declared.declarations.Declared.{Declared}
use Rattle.cxx_names.specs.declared.declarations.ClassItems.{ClassItems}
use Rattle.cxx_names.specs.Tables.{named, with_name}

abbrev pub is_text_by : Option (List ℕ) → List ℕ → Bool
is_text_by None text = false
is_text_by (Some found) text = bytes_eq found text

-- whether a name has this text
abbrev pub is_text : List (List ℕ) → ℕ → List ℕ → Bool
is_text names name text = is_text_by (slice_get names name) text

-- the access of items before any label
abbrev pub default_access : ClassWord → Access
default_access class_word.Class = Private
default_access class_word.Struct = Public

-- ---- items of a class

abbrev pub signature : ℕ → TypeName → List Param → Access → Bool → Signature
signature number result params access is_main =
    record { id = record { 0 = number }; result = result; params = params; access = access; is_main = is_main }

-- the first of several is meant
abbrev pub or_first : {A : Type 0} → Option A → A → Option A
or_first None next = Some next
or_first (Some first) next = Some first

abbrev pub with_member : ClassItems → Member → ClassItems
with_member s m = record s {
  info = record s.info {
    members = with_name s.info.members m.name.item.0 (record { type_name = m.type_name.item; access = s.shown });
    items = with_name s.info.items m.name.item.0 s.count;
  };
  count = suc s.count;
}

abbrev pub with_method : ClassItems → FunctionTree → ClassItems
with_method s f = record s {
  info = record s.info {
    methods = with_name s.info.methods f.name.item.0 (signature s.numbered f.result.item f.params s.shown false);
    items = with_name s.info.items f.name.item.0 s.count;
  };
  count = suc s.count;
  numbered = suc s.numbered;
}

abbrev pub with_ctor : ClassItems → List Param → ClassItems
with_ctor s params = record s {
  info = record s.info { ctor = or_first s.info.ctor (signature s.numbered Void params s.shown false) };
  count = suc s.count;
  numbered = suc s.numbered;
}

abbrev pub with_dtor : ClassItems → ClassItems
with_dtor s = record s {
  info = record s.info { dtor = or_first s.info.dtor (signature s.numbered Void [] s.shown false) };
  count = suc s.count;
  numbered = suc s.numbered;
}

abbrev pub with_label : ClassItems → Access → ClassItems
with_label s access = record s { shown = access; count = suc s.count }

abbrev pub with_item : ClassItems → ItemTree → ClassItems
with_item s (p.label at access) = with_label s access
with_item s (p.member m) = with_member s m
with_item s (p.function f) = with_method s f
with_item s (p.ctor c) = with_ctor s c.params
with_item s (p.dtor d) = with_dtor s

abbrev pub with_items : ClassItems → List ItemTree → ClassItems
with_items s [] = s
with_items s (i ∷ is) = with_items (with_item s i) is

-- ---- declarations

abbrev pub empty : Declared
empty = record { first = []; class_names = []; classes = []; functions = []; globals = []; count = 0; numbered = 0 }

-- the class that a name means
abbrev pub class_named : Declared → ℕ → Option ClassId
class_named d name = named d.class_names name

abbrev pub class_at : Declared → ClassId → Option ClassInfo
class_at d class = slice_get d.classes class.0

-- a base is a class that is declared before
abbrev pub base_named : Declared → Option (Placed NameId) → Option ClassId
base_named d None = None
base_named d (Some name) = class_named d name.item.0

abbrev pub one_above : Option ClassInfo → ℕ
one_above None = 1
one_above (Some info) = suc info.ancestors

-- how many classes stand above one with this base
abbrev pub ancestors_below : Declared → Option ClassId → ℕ
ancestors_below d None = 0
ancestors_below d (Some class) = one_above (class_at d class)

abbrev pub class_begun : Declared → ClassTree → ClassInfo
class_begun d c = record {
  name = c.name;
  index = d.count;
  base = base_named d c.base;
  ancestors = ancestors_below d (base_named d c.base);
  members = [];
  methods = [];
  items = [];
  ctor = None;
  dtor = None;
}

abbrev pub class_items : Declared → ClassTree → ClassItems
class_items d c = with_items (record { info = class_begun d c; shown = default_access c.word; count = 0; numbered = d.numbered }) c.items

abbrev pub next_class : Declared → ClassId
next_class d = record { 0 = length d.classes }

abbrev pub with_class : Declared → ClassTree → Declared
with_class d c = record d {
  first = with_name d.first c.name.item.0 d.count;
  class_names = with_name d.class_names c.name.item.0 (next_class d);
  classes = d.classes ++ (class_items d c).info ∷ [];
  numbered = (class_items d c).numbered;
  count = suc d.count;
}

abbrev pub with_function : List (List ℕ) → Declared → FunctionTree → Declared
with_function names d f = record d {
  first = with_name d.first f.name.item.0 d.count;
  functions = with_name d.functions f.name.item.0 (signature d.numbered f.result.item f.params Public (is_text names f.name.item.0 (codes "main")));
  numbered = suc d.numbered;
  count = suc d.count;
}

abbrev pub global_name : GlobalTree → NameId
global_name (p.variable v) = v.name.item
global_name (p.object o) = o.name.item
global_name (p.mutex at name) = name.item

abbrev pub global_info : GlobalTree → GlobalInfo
global_info (p.variable v) = info.Variable v.type_name.item
global_info (p.object o) = info.Object o.class.item
global_info (p.mutex at name) = info.Mutex

abbrev pub with_global : Declared → GlobalTree → Declared
with_global d g = record d {
  first = with_name d.first (global_name g).0 d.count;
  globals = with_name d.globals (global_name g).0 (global_info g);
  count = suc d.count;
}

abbrev pub passed_over : Declared → Declared
passed_over d = record d { count = suc d.count }

abbrev pub with_decl : List (List ℕ) → Declared → DeclTree → Declared
with_decl names d (p.class c) = with_class d c
with_decl names d (p.class_name c) = passed_over d
with_decl names d (p.free_function f) = with_function names d f
with_decl names d (p.proto f) = passed_over d
with_decl names d (p.global g) = with_global d g

abbrev pub with_decls : List (List ℕ) → Declared → List DeclTree → Declared
with_decls names d [] = d
with_decls names d (x ∷ xs) = with_decls names (with_decl names d x) xs

-- what a program declares
abbrev pub declared : List (List ℕ) → ProgramTree → Declared
declared names q = with_decls names empty q.decls
