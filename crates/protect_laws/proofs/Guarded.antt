-- The functions that enter and leave the parts of objects have generated names.
use Rattle.std.proofs.Common.{◌≡◌, ℕ, zero, suc, refl, sym, ap, subst, ◌∙◌, true, List, [], ◌∷◌, ◌++◌, reverse, codes, Option, Some, None, slice_get}
use Rattle.std.specs.List.{flat_map}
use Rattle.agxx_base.specs.Names.{is_known}
use Rattle.agxx_base.specs.declared.ids.ClassId.{ClassId}
use Rattle.agxx_base.specs.declared.ids.NameId.{NameId}
use Rattle.cxx_tree.specs.declared.node.Placed.{Placed}
use Rattle.cxx_tree.specs.declared.program.Member.{Member}
use Rattle.cxx_tree.specs.Limits.{Every}
use Rattle.cxx_tree.specs.ProgramTree as p
use Rattle.cxx_tree.specs.ProgramTree.{ItemTree, ClassTree, DeclTree}
use Rattle.cxx_names.specs.declared.declarations.MemberInfo.{MemberInfo}
use Rattle.cxx_names.specs.declared.declarations.ClassInfo.{ClassInfo}
use Rattle.cxx_names.specs.declared.declarations.Declared.{Declared}
use Rattle.cxx_names.specs.Declarations as d
use Rattle.cxx_layout.specs.Layouts.{inherited, list_by}
use Rattle.cxx_normal.proofs.Lists.{every-append}
use Rattle.cxx_make.specs.Generated.{text_of}
use Rattle.guards.specs.declared.guard.Guard.{Guard}
use Rattle.guards.specs.declared.guard.GuardKind.{GuardKind}
use Rattle.guards.specs.Guarding.{kind_of}
use Rattle.entry_count.specs.PartCode.{enter, leave}
use Rattle.protect.specs.GuardedParts as g
use Rattle.protect.specs.GeneratedNames.{texts_of_part, texts_of_decl}
use Rattle.protect_laws.specs.Strip.{is_generated, AreKnown}
use Rattle.protect_laws.proofs.Exits.{front-of, back-of}
use Rattle.protect_laws.proofs.Shapes.{texts-are, enter-is, leave-is}
use Rattle.protect_laws.proofs.Known.{every-by, every-reverse, generated-named}

-- ---- a class as it is declared

pub items-name : (x : _) (items : List ItemTree) → (d.with_items x items).info.name ≡ x.info.name
items-name x [] = refl
items-name x (p.label at access ∷ items) = items-name (d.with_label x access) items
items-name x (p.member m ∷ items) = items-name (d.with_member x m) items
items-name x (p.function f ∷ items) = items-name (d.with_method x f) items
items-name x (p.ctor c ∷ items) = items-name (d.with_ctor x c.params) items
items-name x (p.dtor y ∷ items) = items-name (d.with_dtor x) items

-- where no member is declared
items-none : (x : _) (items : List ItemTree) → flat_map g.members_in items ≡ [] → (d.with_items x items).info.members
    ≡ x.info.members
items-none x [] none = refl
items-none x (p.label at access ∷ items) none = items-none (d.with_label x access) items none
items-none x (p.member m ∷ items) none = absurd (cc none)
items-none x (p.function f ∷ items) none = items-none (d.with_method x f) items none
items-none x (p.ctor c ∷ items) none = items-none (d.with_ctor x c.params) items none
items-none x (p.dtor y ∷ items) none = items-none (d.with_dtor x) items none

-- both functions of a part have numbers
abbrev pub AreNamed : List (List ℕ) → NameId → Type 0
AreNamed names class =
    (is_known names (codes "__gop_enter_" ++ text_of names class) ≡ true)
    × (is_known names (codes "__gop_leave_" ++ text_of names class) ≡ true)

-- so both are generated
module _ (names : List (List ℕ)) where
  enter-generated : (class : NameId) → AreNamed names class → is_generated names (enter names class) ≡ true
  enter-generated class both =
      ap (is_generated names) (enter-is names class) ∙ generated-named names
      (codes "__gop_enter_" ++ text_of names class) refl both.0

  leave-generated : (class : NameId) → AreNamed names class → is_generated names (leave names class) ≡ true
  leave-generated class both =
      ap (is_generated names) (leave-is names class) ∙ generated-named names
      (codes "__gop_leave_" ++ text_of names class) refl both.1

  module _ (parts : List NameId) (all : Every (AreNamed names) parts) where
    pub enters-generated : Every (λ class. is_generated names (enter names class) ≡ true) parts
    enters-generated =
        every-by (AreNamed names) (λ class. is_generated names (enter names class) ≡ true) enter-generated parts all

    pub leaves-generated : Every (λ class. is_generated names (leave names class) ≡ true) (reverse parts)
    leaves-generated =
        every-reverse (λ class. is_generated names (leave names class) ≡ true) parts
        (every-by (AreNamed names) (λ class. is_generated names (leave names class) ≡ true) leave-generated parts all)

module _ (names : List (List ℕ)) (guards : List Guard) where
  abbrev Named : NameId → Type 0
  Named class = AreNamed names class

  own-by : (class : Placed NameId) (kind : Option GuardKind) (members : List Member) (infos : List (ℕ × MemberInfo))
      → (members ≡ [] → infos ≡ [])
      → AreKnown names (texts_of_part names (g.part_with class kind members))
      → Every Named (g.if_any infos (g.if_guarded kind class.item))
  own-by class None members [] empty known = tt
  own-by class None members (i ∷ is) empty known = tt
  own-by class (Some kind) [] infos empty known = rw (empty refl) tt
  own-by class (Some kind) (m ∷ ms) [] empty known = tt
  own-by class (Some kind) (m ∷ ms) (i ∷ is) empty all =
      let known = subst (AreKnown names) (texts-are names kind (record { class = class; members = m ∷ ms })) all in
      ((known.1.1.1.1.0, known.1.1.1.1.1.0), tt)

  abbrev OwnNamed : ClassInfo → Type 0
  OwnNamed info = Every Named (g.own_part guards info)

  own-named : (x : Declared) (c : ClassTree) → AreKnown names (texts_of_part names (g.part_of guards c))
      → OwnNamed (d.class_items x c).info
  own-named x c known =
      let infos = (d.class_items x c).info.members in
      subst (λ (name : Placed NameId). Every Named (g.if_any infos (g.if_guarded (kind_of guards name.item) name.item)))
      (sym (items-name (record {
        info = d.class_begun x c;
        shown = d.default_access c.word;
        count = 0;
        numbered =
            x.numbered;
      }) c.items)) (own-by c.name (kind_of guards c.name.item) (g.members_of c) infos
      (items-none (record {
        info = d.class_begun x c;
        shown = d.default_access c.word;
        count = 0;
        numbered =
            x.numbered;
      }) c.items) known)

  classes-named : (x : Declared) (decls : List DeclTree) → AreKnown names (flat_map (texts_of_decl names guards) decls)
      → Every OwnNamed x.classes → Every OwnNamed (d.with_decls names x decls).classes
  classes-named x [] known all = all
  classes-named x (p.class c ∷ decls) known all =
      let texts = texts_of_part names (g.part_of guards c) in
      let first = front-of (λ text. is_known names text ≡ true) texts _ known in
      let rest = back-of (λ text. is_known names text ≡ true) texts _ known in
      classes-named (d.with_class x c) decls rest (every-append OwnNamed x.classes ((d.class_items x c).info ∷ []) all
      (own-named x c first, tt))
  classes-named x (p.class_name c ∷ decls) known all = classes-named (d.passed_over x) decls known all
  classes-named x (p.free_function f ∷ decls) known all = classes-named (d.with_function names x f) decls known all
  classes-named x (p.proto f ∷ decls) known all = classes-named (d.passed_over x) decls known all
  classes-named x (p.global y ∷ decls) known all = classes-named (d.with_global x y) decls known all

  -- ---- the parts of objects

  list-named : (lists : List (List NameId)) (k : ℕ) → Every (Every Named) lists
      → Every Named (list_by (slice_get lists k))
  list-named [] k all = tt
  list-named (x ∷ xs) zero all = all.0
  list-named (x ∷ xs) (suc k) all = list-named xs k all.1

  inherited-named : (lists : List (List NameId)) (base : Option ClassId) → Every (Every Named) lists
      → Every Named (inherited lists base)
  inherited-named lists None all = tt
  inherited-named lists (Some base) all = list-named lists base.0 all

  after-named : (done : List (List NameId)) (infos : List ClassInfo) → Every OwnNamed infos → Every (Every Named) done
      → Every (Every Named) (g.parts_after guards done infos)
  after-named done [] infos-all all = all
  after-named done (info ∷ infos) infos-all all =
      let own = every-append Named (inherited done info.base) (g.own_part guards info)
      (inherited-named done info.base all) infos-all.0 in
      after-named (g.with_parts guards done info) infos infos-all.1
      (every-append (Every Named) done ((inherited done info.base ++ g.own_part guards info) ∷ []) all (own, tt))

  by-named : (lists : List (List NameId)) (class : Option ClassId) → Every (Every Named) lists
      → Every Named (g.parts_by lists class)
  by-named lists None all = tt
  by-named lists (Some class) all = list-named lists class.0 all

  pub parts-named : (q : p.ProgramTree) → AreKnown names (flat_map (texts_of_decl names guards) q.decls)
      → (class : NameId)
      → Every Named (g.parts_named (d.declared names q) (g.guarded_parts guards (d.declared names q)) class)
  parts-named q known class =
      let declared = d.declared names q in
      by-named (g.guarded_parts guards declared) (d.class_named declared class.0)
      (after-named [] declared.classes (classes-named d.empty q.decls known tt) tt)
