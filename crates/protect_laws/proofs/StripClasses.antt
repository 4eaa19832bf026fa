-- What is left of protected classes once generated items are dropped.
use Rattle.std.proofs.Common.{◌≡◌, ℕ, suc, ◌≤◌, ◌<◌, refl, ap, subst, ◌∙◌, Bool, true, false, if◌then◌else◌, List, [], ◌∷◌, ◌++◌, map, codes, Option, Some, None}
use Rattle.std.specs.List.{flat_map}
use Rattle.std.proofs.lemmas.List.{append-nil}
use Rattle.std.proofs.lemmas.Grind.{flat_map-append}
use Rattle.agxx_base.specs.Names.{is_known}
use Rattle.agxx_base.specs.declared.ids.NameId.{NameId}
use Rattle.agxx_base.specs.declared.place.Place.{Place}
use Rattle.cxx_tree.specs.declared.program.Access.{Access}
use Rattle.cxx_tree.specs.declared.program.Access.TheVariants as access_of
use Rattle.cxx_tree.specs.declared.program.Member.{Member}
use Rattle.cxx_tree.specs.declared.program.TypeName.{TypeName}
use Rattle.cxx_tree.specs.declared.program.TypeName.TheVariants as type_of
use Rattle.cxx_tree.specs.Limits.{Every}
use Rattle.cxx_tree.specs.StmtTree.{BlockTree}
use Rattle.cxx_tree.specs.ProgramTree as p
use Rattle.cxx_tree.specs.ProgramTree.{FunctionTree, ItemTree, ClassTree}
use Rattle.cxx_names.specs.Declarations as d
use Rattle.cxx_distinct.specs.NamesIn as n
use Rattle.cxx_normal.specs.Labels.{same_access}
use Rattle.cxx_normal.specs.Normal.{rebuilt_class}
use Rattle.cxx_normal.proofs.Lists.{every-append}
use Rattle.cxx_make.specs.Generated.{text_of}
use Rattle.guards.specs.declared.guard.GuardKind.{GuardKind}
use Rattle.codec.specs.declared.part.Part.{Part}
use Rattle.entry_count.specs.PartCode.{part_members, part_functions}
use Rattle.entry_count.specs.Wrapping as w
use Rattle.protect.specs.Protected as z
use Rattle.protect.specs.GeneratedNames.{texts_of_part}
use Rattle.protect_laws.specs.Strip.{is_generated, is_value, AreKnown, stripped_block, stripped_item}
use Rattle.protect_laws.proofs.StripStmts.{NotGenerated, body-stripped, front, back}
use Rattle.protect_laws.proofs.Known.{generated-named}
use Rattle.protect_laws.proofs.CodeNames.{members-are-generated}
use Rattle.protect_laws.proofs.Shapes.{value_local, texts-are, items-are, counter-is, mutex-is, repair-is, renew-is, enter-is, leave-is}
use Rattle.protect_laws.proofs.Guarded.{AreNamed, enters-generated, leaves-generated}
use Rattle.protect_laws.proofs.Returns.{ReturnsWithin}
use Rattle.protect_laws.proofs.LastLabel.{rebuilt-opening}

module _ (names : List (List ℕ)) where
  abbrev Generated : NameId → Type 0
  Generated name = is_generated names name ≡ true

  abbrev Known : List ℕ → Type 0
  Known text = is_known names text ≡ true

  -- ---- items that are a source's

  module _ (parts : List NameId) (most : ℕ) (named : Every (AreNamed names) parts)
      (values : (k : ℕ) → k < most → is_value names (value_local names (suc k)) ≡ true) where
    body-left : (result : TypeName) (b : BlockTree) → w.returns_in_block b ≤ most
        → NotGenerated names (n.names_in_block b) → stripped_block names (w.wrapped_body names result parts b) ≡ b
    body-left result b within own =
        body-stripped names result parts most (leaves-generated names parts named) values
        (enters-generated names parts named) b within own

    item-left : (item : ItemTree) → ReturnsWithin most item → NotGenerated names (n.names_in_item item)
        → stripped_item names (z.wrapped_item names parts item) ≡ item ∷ []
    item-left (p.label at access) within own = refl
    item-left (p.member m) within own = rw ((back names (n.names_in_type m.type_name) _ own).0) refl
    item-left (p.function f) within own =
        let others = back names (n.names_in_type f.result) _ own in
        let body = back names (n.names_in_params f.params) _ others.1 in
        rw (others.0) (ap (λ b. p.function (record f { body = b }) ∷ []) (body-left f.result.item f.body within body))
    item-left (p.ctor c) within own =
        let body = back names (n.names_in_each n.names_in_init c.inits) _
        (back names (n.names_in_params c.params) _ own.1) in
        ap (λ b. p.ctor (record c { body = b }) ∷ []) (body-left type_of.Void c.body within body)
    item-left (p.dtor x) within own =
        ap (λ b. p.dtor (record x { body = b }) ∷ []) (body-left type_of.Void x.body within own.1)

    pub items-left : (items : List ItemTree) → Every (ReturnsWithin most) items
        → NotGenerated names (n.names_in_each n.names_in_item items)
        → flat_map (stripped_item names) (map (z.wrapped_item names parts) items) ≡ items
    items-left [] within own = refl
    items-left (item ∷ items) within own =
        rw (item-left item within.0 (front names (n.names_in_item item) _ own))
        (ap (λ x. item ∷ x) (items-left items within.1 (back names (n.names_in_item item) _ own)))

  -- ---- items that are added

  members-dropped : (ms : List Member) → Every (λ (m : Member). Generated m.name.item) ms
      → flat_map (stripped_item names) (map p.member ms) ≡ []
  members-dropped [] all = refl
  members-dropped (m ∷ ms) all = rw (all.0) (members-dropped ms all.1)

  functions-dropped : (fs : List FunctionTree) → Every (λ (f : FunctionTree). Generated f.name.item) fs
      → flat_map (stripped_item names) (map p.function fs) ≡ []
  functions-dropped [] all = refl
  functions-dropped (f ∷ fs) all = rw (all.0) (functions-dropped fs all.1)

  pub members-generated : (kind : GuardKind) (part : Part) → AreKnown names (texts_of_part names (Some (kind, part)))
      → Every (λ (m : Member). Generated m.name.item) (part_members (z.code_of kind) names part)
  members-generated kind part all =
      let known = subst (AreKnown names) (texts-are names kind part) all in
      let class = text_of names part.class.item in
      let id = part.class.item in
      let counter = ap (is_generated names) (counter-is names id)
      ∙ generated-named names (codes "__gop_n_" ++ class) refl known.0 in
      let mutex = ap (is_generated names) (mutex-is names id)
      ∙ generated-named names (codes "__gop_l_" ++ class) refl known.1.0 in
      every-append (λ (m : Member). Generated m.name.item) ((z.code_of kind).members names part) _
      (members-are-generated names kind part known.1.1.1.1.1.1) (counter, (mutex, tt))

  functions-generated : (kind : GuardKind) (part : Part) → AreKnown names (texts_of_part names (Some (kind, part)))
      → Every (λ (f : FunctionTree). Generated f.name.item) (part_functions (z.code_of kind) names part)
  functions-generated kind part all =
      let known = subst (AreKnown names) (texts-are names kind part) all in
      let class = text_of names part.class.item in
      let id = part.class.item in
      let repair = ap (is_generated names) (repair-is names id)
      ∙ generated-named names (codes "__gop_repair_" ++ class) refl known.1.1.0 in
      let renew = ap (is_generated names) (renew-is names id)
      ∙ generated-named names (codes "__gop_renew_" ++ class) refl known.1.1.1.0 in
      let entering = ap (is_generated names) (enter-is names id)
      ∙ generated-named names (codes "__gop_enter_" ++ class) refl known.1.1.1.1.0 in
      let leaving = ap (is_generated names) (leave-is names id)
      ∙ generated-named names (codes "__gop_leave_" ++ class) refl known.1.1.1.1.1.0 in
      (repair, (renew, (entering, (leaving, tt))))

  part-dropped : (kind : GuardKind) (part : Part) → AreKnown names (texts_of_part names (Some (kind, part)))
      → flat_map (stripped_item names) (z.part_items (z.code_of kind) names part) ≡ []
  part-dropped kind part known =
      let code = z.code_of kind in
      ap (flat_map (stripped_item names)) (items-are names code part)
      ∙ flat_map-append (stripped_item names) (map p.member (part_members code names part)) _
      ∙ rw (members-dropped (part_members code names part) (members-generated kind part known))
      (functions-dropped (part_functions code names part) (functions-generated kind part known))

  opening-left : (at : Place) (shown : Access) → flat_map (stripped_item names) (z.opening at shown)
      ≡ z.opening at shown
  opening-left at shown = by (same_access shown access_of.Public)
    where
      by : (b : Bool) → flat_map (stripped_item names) (if b then [] else p.label at access_of.Public ∷ [])
          ≡ (if b then [] else p.label at access_of.Public ∷ [])
      by true = refl
      by false = refl

  -- the normal form of a class with what is left of the items that are added to it
  pub added-left : (c : ClassTree) (part : Option (GuardKind × Part)) → AreKnown names (texts_of_part names part)
      → rebuilt_class (record c { items = c.items ++ flat_map (stripped_item names) (z.added names c part) })
      ≡ rebuilt_class c
  added-left c None known = ap (λ items. rebuilt_class (record c { items = items })) (append-nil c.items)
  added-left c (Some (kind, part)) known =
      let shown = z.last_access (d.default_access c.word) c.items in
      let one = flat_map-append (stripped_item names) (z.opening c.at shown)
      (z.part_items (z.code_of kind) names part) in
      let other = part-dropped kind part known in
      let both = one ∙ ap (λ rest. flat_map (stripped_item names) (z.opening c.at shown) ++ rest) other ∙ append-nil _
      ∙ opening-left c.at shown in
      ap (λ items. rebuilt_class (record c { items = c.items ++ items })) both ∙ rebuilt-opening c c.at shown
