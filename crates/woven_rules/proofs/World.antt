-- A program and its protected program, with all that is known of both.
use Rattle.std.proofs.Common.{◌≡◌, ◌≢◌, refl, sym, ap, ◌∙◌, subst, ℕ, ◌<◌, ◌≤◌, ◌^◌, Bool, true, false, if◌then◌else◌, List, [], ◌∷◌, ◌++◌, map, length, Option, Some, None, is_some, codes}
use Rattle.std.specs.Option.{unwrap_or}
use Rattle.std.proofs.lemmas.Option.{same_Some}
use Rattle.agxx_base.specs.declared.ids.ClassId.{ClassId}
use Rattle.agxx_base.specs.declared.ids.NameId.{NameId}
use Rattle.agxx_base.specs.declared.place.Place.{Place}
use Rattle.agxx_base.specs.Names.{IsDistinct, is_known}
use Rattle.cxx_tree.specs.declared.node.Placed.{Placed}
use Rattle.cxx_tree.specs.declared.program.Access.{Access}
use Rattle.cxx_tree.specs.declared.program.Access.TheVariants as access
use Rattle.cxx_tree.specs.declared.program.Member.{Member}
use Rattle.cxx_tree.specs.Limits.{Every}
use Rattle.cxx_tree.specs.ProgramTree as tree
use Rattle.cxx_tree.specs.ProgramTree.{ItemTree, ClassTree, DeclTree}
use Rattle.cxx_names.specs.declared.declarations.ClassInfo.{ClassInfo}
use Rattle.cxx_names.specs.declared.declarations.Declared.{Declared}
use Rattle.cxx_names.specs.Declarations as d
use Rattle.cxx_names.specs.Tables.{named}
use Rattle.cxx_normal.specs.Labels.{same_access}
use Rattle.cxx_distinct.specs.NamesIn as n
use Rattle.cxx_types.specs.Programs.{outside}
use Rattle.cxx_rules.specs.Sites.{Site}
use Rattle.guards.specs.declared.guard.Guard.{Guard}
use Rattle.guards.specs.declared.guard.GuardKind.{GuardKind}
use Rattle.guards.specs.declared.guard.GuardKind.TheVariants as guard
use Rattle.guards.specs.Guarding.{kind_of}
use Rattle.entry_count.specs.Wrapping.{value_texts}
use Rattle.protect.specs.GuardedParts as g
use Rattle.protect.specs.Protected as z
use Rattle.protect.specs.GeneratedNames.{texts_of_part, returns_of}
use Rattle.protect_laws.specs.Strip.{AreKnown}
use Rattle.woven_rules.specs.WovenRules.{HasPlainType}
use Rattle.woven_rules.proofs.Named.{IsOwn}
use Rattle.woven_rules.proofs.Wider.{IsWiderAt, IsWiderClass, IsWider}
use Rattle.woven_rules.proofs.Seen.{OwnNames, own-front, own-back}
use Rattle.woven_rules.proofs.Standing.{Avoids, kept}
use Rattle.woven_rules.proofs.Lineages.{IsBuilt}
use Rattle.woven_rules.proofs.Members.{members}
use Rattle.woven_rules.proofs.Keys.{name_of, keys_of, items_of, items-are, all-keyed, avoids-each, every-both}
use Rattle.woven_rules.proofs.Found as found

pub record Setting : Type 0 where
  -- the texts of names, with those that are generated and before
  pub names : List (List ℕ)
  pub before : List (List ℕ)
  pub guards : List Guard
  pub ds : List DeclTree
  -- as many values as some function returns
  pub most : ℕ

module _ (s : Setting) where
  abbrev pub Own : ℕ → Type 0
  Own k = IsOwn s.before s.names k

  abbrev pub source_of : Declared
  source_of = d.with_decls s.before d.empty s.ds

  abbrev pub known_of : Declared
  known_of = d.with_decls s.names d.empty s.ds

  abbrev pub parts_of : ClassTree → List NameId
  parts_of k = g.parts_named known_of (g.guarded_parts s.guards known_of) k.name.item

  abbrev pub added_to : ClassTree → List ItemTree
  added_to k = z.added s.names k (g.part_of s.guards k)

  -- the kind of a class's guard; of a class without a guard it isn't asked for
  abbrev pub guard_in : ClassTree → GuardKind
  guard_in k = unwrap_or (kind_of s.guards k.name.item) guard.Copies

  abbrev pub weave : ClassTree → ClassTree
  weave k = record k { items = map (z.wrapped_item s.names (parts_of k)) k.items ++ added_to k }

  pub record ClassFacts (k : ClassTree) : Type 0 where
    pub own : OwnNames Own (n.names_in_class k)
    pub within : Every (λ (x : Placed NameId). x.item.0 < length s.names) (n.names_in_class k)
    pub known : AreKnown s.names (texts_of_part s.names (g.part_of s.guards k))
    pub plain : Every HasPlainType k.items
    pub few : is_some (g.part_of s.guards k) ≡ true → length (members k.items) ≤ 120
    pub returns : Every (λ i. returns_of i ≤ s.most) k.items

  abbrev pub woven_of : Declared
  woven_of = d.with_decls s.names d.empty (map (found.woven_decl s.before s.names weave ClassFacts) s.ds)

  abbrev pub site : Site
  site = record { names = s.before; declared = source_of; context = outside 0; scope = []; locals = 0; returns = 0 }

  abbrev pub IsFound : ℕ → ClassTree → Type 0
  IsFound class k = found.IsFound s.before s.names weave ClassFacts site woven_of class k

  pub record Facts : Type 0 where
    pub distinct : IsDistinct s.names
    pub own : OwnNames Own (n.names_in_each n.names_in_decl s.ds)
    pub wide : IsWider Own source_of woven_of
    pub built : IsBuilt source_of
    pub same : known_of ≡ source_of
    pub found : found.AllFound s.before s.names weave ClassFacts site woven_of 0 s.ds
    pub values : AreKnown s.names (value_texts 1 s.most)
    pub few : s.most < 2 ^ 32
    pub lock : is_known s.names (codes "lock") ≡ true
    pub unlock : is_known s.names (codes "unlock") ≡ true

  -- ---- items that avoid a name

  pub own-avoid : (j : ℕ) → ((i : ℕ) → Own i → i ≢ j) → (parts : List NameId) (is : List ItemTree)
      → OwnNames Own (n.names_in_each n.names_in_item is) → Every (Avoids j) (map (z.wrapped_item s.names parts) is)
  own-avoid j foreign parts [] own = tt
  own-avoid j foreign parts (tree.label at a ∷ is) own = (tt, own-avoid j foreign parts is own)
  own-avoid j foreign parts (tree.member m ∷ is) own =
      let here =
      own-back Own (n.names_in_type m.type_name) _ (own-front Own (n.names_in_item (tree.member m)) _ own) in (
        (λ e. foreign m.name.item.0 here.0 (sym e)),
        own-avoid j foreign parts is
            (own-back Own (n.names_in_item (tree.member m)) _ own),
      )
  own-avoid j foreign parts (tree.function f ∷ is) own =
      let here =
      own-back Own (n.names_in_type f.result) _ (own-front Own (n.names_in_item (tree.function f)) _ own) in (
        (λ e. foreign f.name.item.0 here.0 (sym e)),
        own-avoid j foreign parts is
            (own-back Own (n.names_in_item (tree.function f)) _ own),
      )
  own-avoid j foreign parts (tree.ctor k ∷ is) own =
      (tt, own-avoid j foreign parts is (own-back Own (n.names_in_item (tree.ctor k)) _ own))
  own-avoid j foreign parts (tree.dtor k ∷ is) own =
      (tt, own-avoid j foreign parts is (own-back Own (n.names_in_item (tree.dtor k)) _ own))

  pub opening-avoid : (j : ℕ) (at : Place) (shown : Access) → Every (Avoids j) (z.opening at shown)
  opening-avoid j at shown = by (same_access shown access.Public)
    where
      by : (b : Bool) → Every (Avoids j) (if b then [] else tree.label at access.Public ∷ [])
      by true = tt
      by false = (tt, tt)

  part-avoid : (j : ℕ) (k : ClassTree) (kind : Option GuardKind) (ms : List Member)
      → (is_some (g.part_with k.name kind ms) ≡ true
      → Every (λ q. j ≢ (name_of s.names q).0) (keys_of s.names (unwrap_or kind guard.Copies) k.name ms))
      → Every (Avoids j) (z.added s.names k (g.part_with k.name kind ms))
  part-avoid j k None ms other = tt
  part-avoid j k (Some kind) [] other = tt
  part-avoid j k (Some kind) (m ∷ ms) other =
      every-both (Avoids j) (z.opening k.at (z.last_access (d.default_access k.word) k.items)) _
      (opening-avoid j k.at (z.last_access (d.default_access k.word) k.items))
      (subst (Every (Avoids j)) (sym (items-are s.names kind k.name (m ∷ ms)))
      (avoids-each s.names j (items_of s.names kind k.name (m ∷ ms)) (keys_of s.names kind k.name (m ∷ ms))
      (all-keyed s.names k.name kind (m ∷ ms)) (other refl)))

  pub woven-avoid : (j : ℕ) → ((i : ℕ) → Own i → i ≢ j) → (k : ClassTree) → ClassFacts k
      → (is_some (g.part_of s.guards k) ≡ true
      → Every (λ q. j ≢ (name_of s.names q).0) (keys_of s.names (guard_in k) k.name (members k.items)))
      → Every (Avoids j) (weave k).items
  woven-avoid j foreign k facts other =
      every-both (Avoids j) (map (z.wrapped_item s.names (parts_of k)) k.items) (added_to k)
      (own-avoid j foreign (parts_of k) k.items (own-back Own (n.names_in_base_of k.base) _ facts.own.1))
      (part-avoid j k (kind_of s.guards k.name.item) (members k.items) other)

  -- ---- the classes of the protected program

  module _ (f : Facts) where
    -- the class with a number, in the program and in its protected program
    pub record IsClass (b : ClassId) (info : ClassInfo) : Type 0 where
      pub k : ClassTree
      pub is : IsFound b.0 k
      pub info_is : info ≡ (d.class_items is.y (weave k)).info
      pub wider : IsWiderClass Own (d.class_items is.x k).info info

    pub class-at : (b : ClassId) (info : ClassInfo) → d.class_at woven_of b ≡ Some info → IsClass b info
    class-at b info e =
        by (d.class_at source_of b) refl (subst (IsWiderAt Own (d.class_at source_of b)) e (f.wide.classes b))
      where
        by : (o : Option ClassInfo) → d.class_at source_of b ≡ o → IsWiderAt Own (d.class_at source_of b) (Some info)
            → IsClass b info
        by None at wide = absurd (subst (λ o. IsWiderAt Own o (Some info)) at wide)
        by (Some x) at wide =
            let c = found.class-of s.before s.names weave ClassFacts site woven_of s.ds f.found refl b x at in
            record {
              k = c.0;
              is = c.1;
              info_is = same_Some info (d.class_items c.1.y (weave c.0)).info (sym e ∙ c.1.woven_is);
              wider = subst (λ o. IsWiderAt Own o (Some info)) c.1.source_is wide;
            }

    -- a name that its items avoid stands for nothing in it
    pub absent : (b : ClassId) (info : ClassInfo) (c : IsClass b info) (j : ℕ) → Every (Avoids j) (weave c.k).items
        → (named info.items j ≡ None) × (named info.members j ≡ None) × (named info.methods j ≡ None)
    absent b info c j avoid =
        let x = c.is.y in
        let begun = d.class_begun x (weave c.k) in
        let same = kept j (weave c.k).items avoid begun (d.default_access c.k.word) 0 x.numbered in (
          ap (λ (u : ClassInfo). named u.items j) c.info_is ∙ same.0,
          ap (λ (u : ClassInfo). named u.members j) c.info_is ∙ same.1,
          ap (λ (u : ClassInfo). named u.methods j) c.info_is ∙ same.2,
        )
