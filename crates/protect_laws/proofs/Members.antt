-- The members of protected classes, and which classes have a part.
use Rattle.std.proofs.Common.{◌≡◌, ◌<◌, ℕ, zero, suc, refl, sym, ap, subst, ◌∙◌, arith, Bool, true, false, cond, ◌||◌, true≢false, if◌then◌else◌, nat_eq, List, [], ◌∷◌, ◌++◌, map, length, Option, Some, None, is_some, slice_get}
use Rattle.std.specs.List.{list_any, flat_map}
use Rattle.std.specs.Option.{unwrap_or}
use Rattle.std.specs.Str.{bytes_eq}
use Rattle.std.proofs.lemmas.List.{append-nil, append_assoc}
use Rattle.std.proofs.lemmas.List.Folds.{list_any-append}
use Rattle.std.proofs.lemmas.Grind.{flat_map-append}
use Rattle.std.proofs.lemmas.Slice.Eq.{bytes_eq-Decides}
use Rattle.agxx_base.specs.Names.{is_known, number_of}
use Rattle.agxx_base.proofs.Interning.{at-number}
use Rattle.agxx_base.specs.declared.ids.NameId.{NameId}
use Rattle.agxx_base.specs.declared.place.Place.{Place}
use Rattle.cxx_tree.specs.declared.node.Placed.{Placed}
use Rattle.cxx_tree.specs.declared.program.Access.{Access}
use Rattle.cxx_tree.specs.declared.program.Access.TheVariants as access_of
use Rattle.cxx_tree.specs.declared.program.Member.{Member}
use Rattle.cxx_tree.specs.declared.program.TypeName.TheVariants as type_of
use Rattle.cxx_tree.specs.Limits.{Every}
use Rattle.cxx_tree.specs.ProgramTree as p
use Rattle.cxx_tree.specs.ProgramTree.{FunctionTree, ItemTree, ClassTree, DeclTree}
use Rattle.cxx_names.specs.declared.declarations.ClassInfo.{ClassInfo}
use Rattle.cxx_names.specs.declared.declarations.Declared.{Declared}
use Rattle.cxx_names.specs.Tables.{named, with_name}
use Rattle.cxx_names.specs.Declarations as d
use Rattle.cxx_layout.specs.Parts.{part_name, has_part_by}
use Rattle.cxx_distinct.specs.NamesIn as n
use Rattle.cxx_normal.specs.Labels.{same_access}
use Rattle.cxx_make.specs.Generated.{text_of}
use Rattle.guards.specs.declared.guard.Guard.{Guard}
use Rattle.guards.specs.declared.guard.GuardKind.{GuardKind}
use Rattle.guards.specs.Guarding.{kind_of}
use Rattle.codec.specs.declared.part.Part.{Part}
use Rattle.cxx_make.specs.Made as made
use Rattle.entry_count.specs.PartCode.{counter, mutex, part_members, part_functions}
use Rattle.protect.specs.GuardedParts as g
use Rattle.protect.specs.Protected as z
use Rattle.protect.specs.GeneratedNames.{texts_of_part, texts_of_decl}
use Rattle.protect_laws.specs.Strip.{begins_generated, is_generated, AreKnown}
use Rattle.protect_laws.specs.Guarded.{class_in, Pairwise, extra_members, HasItsPart, HasItsMembers, PartsAreGuarded, MembersAreAdded}
use Rattle.protect_laws.proofs.Exits.{front-of, back-of}
use Rattle.protect_laws.proofs.StripStmts.{NotGenerated, front, back}
use Rattle.protect_laws.proofs.Shapes.{texts-are, items-are, counter-is}
use Rattle.protect_laws.proofs.Guarded.{items-name}

-- ---- members of protected classes

members-kept : (names : List (List ℕ)) (parts : List NameId) (items : List ItemTree)
    → flat_map g.members_in (map (z.wrapped_item names parts) items) ≡ flat_map g.members_in items
members-kept names parts [] = refl
members-kept names parts (p.label at access ∷ items) = members-kept names parts items
members-kept names parts (p.member m ∷ items) = ap (λ x. m ∷ x) (members-kept names parts items)
members-kept names parts (p.function f ∷ items) = members-kept names parts items
members-kept names parts (p.ctor c ∷ items) = members-kept names parts items
members-kept names parts (p.dtor x ∷ items) = members-kept names parts items

of-members : (ms : List Member) (rest : List ItemTree) → flat_map g.members_in (map p.member ms ++ rest) ≡ ms
    ++ flat_map g.members_in rest
of-members [] rest = refl
of-members (m ∷ ms) rest = ap (λ x. m ∷ x) (of-members ms rest)

of-functions : (fs : List FunctionTree) → flat_map g.members_in (map p.function fs) ≡ []
of-functions [] = refl
of-functions (f ∷ fs) = of-functions fs

of-opening : (at : Place) (shown : Access) (rest : List ItemTree) → flat_map g.members_in (z.opening at shown ++ rest)
    ≡ flat_map g.members_in rest
of-opening at shown rest = by (same_access shown access_of.Public)
  where
    by : (b : Bool) → flat_map g.members_in ((if b then [] else p.label at access_of.Public ∷ []) ++ rest)
        ≡ flat_map g.members_in rest
    by true = refl
    by false = refl

of-added : (names : List (List ℕ)) (c : ClassTree) (part : Option (GuardKind × Part))
    → flat_map g.members_in (z.added names c part) ≡ extra_members names part
of-added names c None = refl
of-added names c (Some (kind, part)) =
    let ms = part_members (z.code_of kind) names part in
    let fs = part_functions (z.code_of kind) names part in
    of-opening c.at (z.last_access (d.default_access c.word) c.items) (z.part_items (z.code_of kind) names part)
    ∙ ap (flat_map g.members_in) (items-are names (z.code_of kind) part) ∙ of-members ms (map p.function fs)
    ∙ ap (λ x. ms ++ x) (of-functions fs) ∙ append-nil ms

module _ (names : List (List ℕ)) (guards : List Guard) (x : Declared) (lists : List (List NameId)) where
  pub members-added : (c : ClassTree) → g.members_of (z.protected_class names guards x lists c) ≡ g.members_of c
      ++ extra_members names (g.part_of guards c)
  members-added c =
      let parts = g.parts_named x lists c.name.item in
      let other = z.added names c (g.part_of guards c) in
      flat_map-append g.members_in (map (z.wrapped_item names parts) c.items) other
      ∙ ap (λ y. y ++ flat_map g.members_in other) (members-kept names parts c.items)
      ∙ ap (λ y. g.members_of c ++ y) (of-added names c (g.part_of guards c))

  classes-added : (ds : List DeclTree) → Pairwise (HasItsMembers names guards) (flat_map class_in ds)
      (flat_map class_in (map (z.protected_decl names guards x lists) ds))
  classes-added [] = tt
  classes-added (p.class c ∷ ds) = ((refl, refl, members-added c), classes-added ds)
  classes-added (p.class_name c ∷ ds) = classes-added ds
  classes-added (p.free_function f ∷ ds) = classes-added ds
  classes-added (p.proto f ∷ ds) = classes-added ds
  classes-added (p.global y ∷ ds) = classes-added ds

pub members-are-added : MembersAreAdded
members-are-added names guards q =
    classes-added names guards (d.declared names q) (g.guarded_parts guards (d.declared names q)) q.decls

-- ---- what the declarations say of members

or-true : (b : Bool) → (b || true) ≡ true
or-true true = refl
or-true false = refl

or-false : (b : Bool) → (b || false) ≡ b
or-false true = refl
or-false false = refl

or-assoc : (a b c : Bool) → ((a || b) || c) ≡ (a || (b || c))
or-assoc true b c = refl
or-assoc false b c = refl

same-number : (k j : ℕ) → nat_eq k j ≡ true → k ≡ j
same-number k j e = grind arith

module _ (test : ℕ → Bool) where
  -- a name that is found is one of the names
  found-any : {V : Type 0} (es : List (ℕ × V)) (k : ℕ) → is_some (named es k) ≡ true → test k ≡ true
      → list_any (λ (e : ℕ × V). test e.0) es ≡ true
  found-any [] k found one = absurd (true≢false (sym found))
  found-any {V = V} ((j, v) ∷ es) k found one = by (nat_eq k j) refl found (λ is. found-any es k is one)
    where
      by : (b : Bool) → nat_eq k j ≡ b → is_some (cond b (Some v) (named es k)) ≡ true
          → (is_some (named es k) ≡ true → list_any (λ (e : ℕ × V). test e.0) es ≡ true)
          → list_any (λ (e : ℕ × V). test e.0) ((j, v) ∷ es) ≡ true
      by true e is rest = rw (← same-number k j e, one) refl
      by false e is rest = rw (rest is) (or-true (test j))

  any-named : {V : Type 0} (es : List (ℕ × V)) (k : ℕ) (v : V) → list_any (λ (e : ℕ × V). test e.0) (with_name es k v)
      ≡ (list_any (λ (e : ℕ × V). test e.0) es || test k)
  any-named {V = V} es k v = by (is_some (named es k)) refl (test k) refl
    where
      by : (b : Bool) → is_some (named es k) ≡ b → (t : Bool) → test k ≡ t
          → list_any (λ (e : ℕ × V). test e.0) (if b then es else es ++ (k, v) ∷ [])
          ≡ (list_any (λ (e : ℕ × V). test e.0) es || t)
      by true found true one = found-any es k found one ∙ sym (or-true (list_any (λ (e : ℕ × V). test e.0) es))
      by true found false one = sym (or-false (list_any (λ (e : ℕ × V). test e.0) es))
      by false found t one =
          list_any-append (λ (e : ℕ × V). test e.0) es ((k, v) ∷ [])
          ∙ ap (λ y. list_any (λ (e : ℕ × V). test e.0) es || (y || false)) one
          ∙ ap (λ y. list_any (λ (e : ℕ × V). test e.0) es || y) (or-false t)

  abbrev Tested : List Member → Bool
  Tested ms = list_any (λ (m : Member). test m.name.item.0) ms

  any-items : (x : _) (items : List ItemTree) → list_any (λ e. test e.0) (d.with_items x items).info.members
      ≡ (list_any (λ e. test e.0) x.info.members || Tested (flat_map g.members_in items))
  any-items x [] = sym (or-false (list_any (λ e. test e.0) x.info.members))
  any-items x (p.label at access ∷ items) = any-items (d.with_label x access) items
  any-items x (p.member m ∷ items) =
      let rest = Tested (flat_map g.members_in items) in
      any-items (d.with_member x m) items ∙ ap (λ y. y || rest)
      (any-named x.info.members m.name.item.0 (record { type_name = m.type_name.item; access = x.shown }))
      ∙ or-assoc (list_any (λ e. test e.0) x.info.members) (test m.name.item.0) rest
  any-items x (p.function f ∷ items) = any-items (d.with_method x f) items
  any-items x (p.ctor c ∷ items) = any-items (d.with_ctor x c.params) items
  any-items x (p.dtor y ∷ items) = any-items (d.with_dtor x) items

-- ---- the counter

module _ (names : List (List ℕ)) where
  abbrev pub Own : Member → Type 0
  Own m = is_generated names m.name.item ≡ false

  -- a name of a source has no text that begins so
  pub other-text : (name : NameId) (text : List ℕ) → begins_generated text ≡ true → is_generated names name ≡ false
      → d.is_text names name.0 text ≡ false
  other-text name text begins own = by (slice_get names name.0) refl
    where
      by : (o : Option (List ℕ)) → slice_get names name.0 ≡ o → d.is_text_by o text ≡ false
      by None e = refl
      by (Some old) e = decide (bytes_eq old text) refl
        where
          decide : (b : Bool) → bytes_eq old text ≡ b → b ≡ false
          decide true same =
              let is : old ≡ text = (bytes_eq-Decides old text).0 same in
              absurd (true≢false (sym begins ∙ sym (ap begins_generated is)
              ∙ sym (ap (λ o. begins_generated (unwrap_or o [])) e) ∙ own))
          decide false same = refl

  none-own : (text : List ℕ) → begins_generated text ≡ true → (ms : List Member) → Every Own ms
      → list_any (λ (m : Member). d.is_text names m.name.item.0 text) ms ≡ false
  none-own text begins [] own = refl
  none-own text begins (m ∷ ms) own = rw (other-text m.name.item text begins own.0) (none-own text begins ms own.1)

  known-text : (text : List ℕ) → is_known names text ≡ true → d.is_text names (number_of names text) text ≡ true
  known-text text known = rw (at-number names text known) ((bytes_eq-Decides text text).1 refl)

  pub known-counter : (class : NameId) → is_known names (part_name (text_of names class)) ≡ true
      → d.is_text names (counter names class).0 (part_name (text_of names class)) ≡ true
  known-counter class known =
      ap (λ (name : NameId). d.is_text names name.0 (part_name (text_of names class))) (counter-is names class)
      ∙ known-text (part_name (text_of names class)) known

  pub members-own : (items : List ItemTree) → NotGenerated names (n.names_in_each n.names_in_item items)
      → Every Own (flat_map g.members_in items)
  members-own [] own = tt
  members-own (p.label at access ∷ items) own = members-own items own
  members-own (p.member m ∷ items) own = (
    (back names (n.names_in_type m.type_name) _ (front names (n.names_in_item (p.member m)) _ own)).0,
    members-own
        items (back names (n.names_in_item (p.member m)) _ own),
  )
  members-own (p.function f ∷ items) own = members-own items (back names (n.names_in_item (p.function f)) _ own)
  members-own (p.ctor c ∷ items) own = members-own items (back names (n.names_in_item (p.ctor c)) _ own)
  members-own (p.dtor x ∷ items) own = members-own items (back names (n.names_in_item (p.dtor x)) _ own)

  -- the members of a part have the counter of its class among them
  extra-counts : (class : Placed NameId) (kind : Option GuardKind) (members : List Member)
      → AreKnown names (texts_of_part names (g.part_with class kind members))
      → list_any (λ (m : Member). d.is_text names m.name.item.0 (part_name (text_of names class.item)))
      (extra_members names (g.part_with class kind members)) ≡ is_some (g.part_with class kind members)
  extra-counts class None members known = refl
  extra-counts class (Some kind) [] known = refl
  extra-counts class (Some kind) (m ∷ ms) known =
      let Is = λ (m : Member). d.is_text names m.name.item.0 (part_name (text_of names class.item)) in
      let part : Part = record { class = class; members = m ∷ ms } in
      let added = (z.code_of kind).members names part in
      list_any-append Is added _ ∙ ap (λ y. list_any Is added ||
      (y || (Is (made.member class.at type_of.Mutex (mutex names class.item)) || false)))
      (known-counter class.item (subst (AreKnown names) (texts-are names kind part) known).0)
      ∙ or-true (list_any Is added)

  there : (xs : List (List ℕ)) (k : ℕ) → k < length xs → slice_get xs k ≡ Some (unwrap_or (slice_get xs k) [])
  there [] k below = absurd (omega arith)
  there (x ∷ xs) zero below = refl
  there (x ∷ xs) (suc k) below = there xs k (omega arith)

  module _ (guards : List Guard) (lists : List (List NameId)) (source : Declared) where
    class-counts : (x : Declared) (c : ClassTree) → c.name.item.0 < length names
        → NotGenerated names (n.names_in_class c) → AreKnown names (texts_of_part names (g.part_of guards c))
        → HasItsPart names guards c (d.class_items x (z.protected_class names guards source lists c)).info
    class-counts x c below own known =
        let woven = z.protected_class names guards source lists c in
        let text = part_name (text_of names c.name.item) in
        let Is = λ (m : Member). d.is_text names m.name.item.0 text in
        let begun = any-items (λ k. d.is_text names k text)
        (record { info = d.class_begun x woven; shown = d.default_access woven.word; count = 0; numbered = x.numbered })
        woven.items in
        let name = items-name (record {
          info = d.class_begun x woven;
          shown = d.default_access woven.word;
          count =
              0;
          numbered = x.numbered;
        }) woven.items in
        let infos = (d.class_items x woven).info.members in
        let extra = extra_members names (g.part_of guards c) in
        let none = none-own text refl (g.members_of c) (members-own c.items
        (back names (n.names_in_base_of c.base) _ own.1)) in
        let all = ap (list_any Is) (members-added names guards source lists c)
        ∙ list_any-append Is (g.members_of c) extra ∙ ap (λ y. y || list_any Is extra) none
        ∙ extra-counts c.name (kind_of guards c.name.item) (g.members_of c) known in (
          name,
          ap (λ (y : Placed NameId). has_part_by names (slice_get names y.item.0) infos) name
              ∙ ap (λ o. has_part_by names o infos) (there names c.name.item.0 below) ∙ begun ∙ all,
        )

    -- the classes that are declared behind others
    decls-count : (x : Declared) (ds : List DeclTree) → Every (λ (y : Placed NameId). y.item.0 < length names)
        (n.names_in_each n.names_in_decl ds) → NotGenerated names (n.names_in_each n.names_in_decl ds)
        → AreKnown names (flat_map (texts_of_decl names guards) ds)
        → (more : List ClassInfo) × ((d.with_decls names x
        (map (z.protected_decl names guards source lists) ds)).classes ≡ x.classes ++ more)
        × Pairwise (HasItsPart names guards) (flat_map class_in ds) more
    decls-count x [] below own known = ([], sym (append-nil x.classes), tt)
    decls-count x (p.class c ∷ ds) below own known =
        let woven = z.protected_class names guards source lists c in
        let info = (d.class_items x woven).info in
        let texts = texts_of_part names (g.part_of guards c) in
        let Below : Placed NameId → Type 0 = λ y. y.item.0 < length names in
        let Known : List ℕ → Type 0 = λ text. is_known names text ≡ true in
        let rest = decls-count (d.with_class x woven) ds (back-of Below (n.names_in_class c) _ below)
        (back names (n.names_in_class c) _ own) (back-of Known texts _ known) in
        let one = class-counts x c (front-of Below (n.names_in_class c) _ below).0
        (front names (n.names_in_class c) _ own) (front-of Known texts _ known) in
        (info ∷ rest.0, rest.1 ∙ append_assoc x.classes (info ∷ []) rest.0, (one, rest.2))
    decls-count x (p.class_name c ∷ ds) below own known = decls-count (d.passed_over x) ds below own known
    decls-count x (p.free_function f ∷ ds) below own known =
        decls-count (d.with_function names x f) ds (back-of (λ (y : Placed NameId). y.item.0 < length names)
        (n.names_in_function f) _ below) (back names (n.names_in_function f) _ own) known
    decls-count x (p.proto f ∷ ds) below own known = decls-count (d.passed_over x) ds below own known
    decls-count x (p.global y ∷ ds) below own known =
        decls-count (d.with_global x y) ds (back-of (λ (y : Placed NameId). y.item.0 < length names)
        (n.names_in_global y) _ below) (back names (n.names_in_global y) _ own) known

pub parts-are-guarded : PartsAreGuarded
parts-are-guarded names guards q below own known =
    let source = d.declared names q in
    let lists = g.guarded_parts guards source in
    let texts = front-of (λ text. is_known names text ≡ true) (flat_map (texts_of_decl names guards) q.decls) _ known in
    let made = decls-count names guards lists source d.empty q.decls below own texts in
    subst (Pairwise (HasItsPart names guards) (flat_map class_in q.decls)) (sym made.1) made.2
