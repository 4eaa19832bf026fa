-- Bodies of a program in which no name is generated enter and leave parts.
use Rattle.std.proofs.Common.{◌≡◌, ℕ, refl, sym, ap, ◌∙◌, true, false, true≢false, List, [], ◌∷◌, ◌++◌, map, reverse}
use Rattle.std.specs.List.{flat_map}
use Rattle.agxx_base.specs.Names.{is_known}
use Rattle.agxx_base.specs.declared.ids.NameId.{NameId}
use Rattle.cxx_tree.specs.declared.node.Placed.{Placed}
use Rattle.cxx_tree.specs.declared.program.TypeName.{TypeName}
use Rattle.cxx_tree.specs.declared.program.TypeName.TheVariants as type_of
use Rattle.cxx_tree.specs.Limits.{Every}
use Rattle.cxx_tree.specs.StmtTree.{BlockTree}
use Rattle.cxx_tree.specs.ProgramTree as p
use Rattle.cxx_tree.specs.ProgramTree.{ItemTree, ClassTree, DeclTree}
use Rattle.cxx_names.specs.declared.declarations.Declared.{Declared}
use Rattle.cxx_names.specs.Declarations.{declared}
use Rattle.cxx_distinct.specs.NamesIn as n
use Rattle.cxx_normal.proofs.Lists.{every-append}
use Rattle.guards.specs.declared.guard.Guard.{Guard}
use Rattle.entry_count.specs.PartCode.{enter, leave}
use Rattle.entry_count.specs.Wrapping.{wrapped_body}
use Rattle.protect.specs.GuardedParts as g
use Rattle.protect.specs.Protected as z
use Rattle.protect.specs.GeneratedNames.{texts_of_decl}
use Rattle.protect_laws.specs.Exits.{IsApart}
use Rattle.protect_laws.specs.Strip.{is_generated}
use Rattle.protect_laws.specs.Guarded.{class_in, Pairwise}
use Rattle.protect_laws.specs.Bodies.{IsGuardedBody, IsGuardedItem, IsGuardedClass, BodiesAreGuarded}
use Rattle.protect_laws.proofs.Exits.{front-of, exits-come-after-leaves}
use Rattle.protect_laws.proofs.StripStmts.{NotGenerated, front, back}
use Rattle.protect_laws.proofs.Known.{every-mapped}
use Rattle.protect_laws.proofs.Guarded.{AreNamed, enters-generated, leaves-generated, parts-named}

module _ (names : List (List ℕ)) where
  abbrev Generated : NameId → Type 0
  Generated name = is_generated names name ≡ true

  apart : (others : List NameId) → Every Generated others → (name : NameId) → is_generated names name ≡ false
      → IsApart others name
  apart [] all name own = tt
  apart (other ∷ others) all name own =
      ((λ e. true≢false (sym (all.0) ∙ ap (is_generated names) (sym e) ∙ own)), apart others all.1 name own)

  all-apart : (others : List NameId) → Every Generated others → (ns : List (Placed NameId)) → NotGenerated names ns
      → Every (λ (x : Placed NameId). IsApart others x.item) ns
  all-apart others all [] own = tt
  all-apart others all (x ∷ xs) own = (apart others all x.item own.0, all-apart others all xs own.1)

  module _ (parts : List NameId) (named : Every (AreNamed names) parts) where
    special : Every Generated (map (enter names) parts ++ map (leave names) (reverse parts))
    special =
        every-append Generated (map (enter names) parts) (map (leave names) (reverse parts))
        (every-mapped Generated (enter names) parts (enters-generated names parts named))
        (every-mapped Generated (leave names) (reverse parts) (leaves-generated names parts named))

  body-guarded : (result : TypeName) (parts : List NameId) → Every (AreNamed names) parts → (b : BlockTree)
      → NotGenerated names (n.names_in_block b) → IsGuardedBody names parts b (wrapped_body names result parts b)
  body-guarded result [] named b own = refl
  body-guarded result (class ∷ classes) named b own =
      exits-come-after-leaves names result class classes b
      (all-apart (map (enter names) (class ∷ classes) ++ map (leave names) (reverse (class ∷ classes)))
      (special (class ∷ classes) named) (n.names_in_block b) own)

  module _ (parts : List NameId) (named : Every (AreNamed names) parts) where
    item-guarded : (item : ItemTree) → NotGenerated names (n.names_in_item item)
        → IsGuardedItem names parts item (z.wrapped_item names parts item)
    item-guarded (p.label at access) own = refl
    item-guarded (p.member m) own = refl
    item-guarded (p.function f) own =
        let others = back names (n.names_in_type f.result) _ own in (
          wrapped_body names f.result.item parts f.body,
          refl,
          body-guarded f.result.item parts named f.body
              (back names (n.names_in_params f.params) _ others.1),
        )
    item-guarded (p.ctor c) own = (
      wrapped_body names type_of.Void parts c.body,
      refl,
      body-guarded type_of.Void parts named c.body
          (back names (n.names_in_each n.names_in_init c.inits) _ (back names (n.names_in_params c.params) _ own.1)),
    )
    item-guarded (p.dtor x) own =
        (wrapped_body names type_of.Void parts x.body, refl, body-guarded type_of.Void parts named x.body own.1)

    items-guarded : (items : List ItemTree) → NotGenerated names (n.names_in_each n.names_in_item items)
        → Pairwise (IsGuardedItem names parts) items (map (z.wrapped_item names parts) items)
    items-guarded [] own = tt
    items-guarded (item ∷ items) own = (
      item-guarded item (front names (n.names_in_item item) _ own),
      items-guarded items
          (back names (n.names_in_item item) _ own),
    )

  module _ (guards : List Guard) (x : Declared) (lists : List (List NameId))
      (named : (class : NameId) → Every (AreNamed names) (g.parts_named x lists class)) where
    decls-guarded : (ds : List DeclTree) → NotGenerated names (n.names_in_each n.names_in_decl ds)
        → Pairwise (λ (c : ClassTree) woven. IsGuardedClass names (g.parts_named x lists c.name.item) c woven)
        (flat_map class_in ds) (flat_map class_in (map (z.protected_decl names guards x lists) ds))
    decls-guarded [] own = tt
    decls-guarded (p.class c ∷ ds) own =
        let parts = g.parts_named x lists c.name.item in
        let one = back names (n.names_in_base_of c.base) _ (front names (n.names_in_class c) _ own).1 in (
          (
            map (z.wrapped_item names parts) c.items,
            z.added names c (g.part_of guards c),
            refl,
            items-guarded parts
                (named c.name.item) c.items one,
          ),
          decls-guarded ds (back names (n.names_in_class c) _ own),
        )
    decls-guarded (p.class_name c ∷ ds) own = decls-guarded ds own
    decls-guarded (p.free_function f ∷ ds) own = decls-guarded ds (back names (n.names_in_function f) _ own)
    decls-guarded (p.proto f ∷ ds) own = decls-guarded ds own
    decls-guarded (p.global y ∷ ds) own = decls-guarded ds (back names (n.names_in_global y) _ own)

pub bodies-are-guarded : BodiesAreGuarded
bodies-are-guarded names guards q own known =
    let d = declared names q in
    let texts = front-of (λ text. is_known names text ≡ true) (flat_map (texts_of_decl names guards) q.decls) _ known in
    decls-guarded names guards d (g.guarded_parts guards d) (parts-named names guards q texts) q.decls own
