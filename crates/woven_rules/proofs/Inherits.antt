-- What a class with a part adds stands in no class above it.
use Rattle.std.proofs.Common.{◌≡◌, ◌≢◌, refl, sym, ap, ◌∙◌, subst, ℕ, ◌<◌, arith, Bool, true, false, ◌||◌, List, [], ◌∷◌, map, length, Option, Some, None, is_some}
use Rattle.std.specs.List.{list_any, range_with_len}
use Rattle.std.specs.Option.{unwrap_or}
use Rattle.std.proofs.lemmas.Option.{none-some, same_Some}
use Rattle.agxx_base.specs.declared.ids.ClassId.{ClassId}
use Rattle.agxx_base.specs.declared.ids.NameId.{NameId}
use Rattle.cxx_tree.specs.declared.node.Placed.{Placed}
use Rattle.cxx_tree.specs.declared.program.Member.{Member}
use Rattle.cxx_tree.specs.Limits.{Every}
use Rattle.cxx_tree.specs.ProgramTree as tree
use Rattle.cxx_tree.specs.ProgramTree.{ItemTree, ClassTree}
use Rattle.cxx_names.specs.declared.declarations.ClassInfo.{ClassInfo}
use Rattle.cxx_names.specs.declared.declarations.MemberInfo.{MemberInfo}
use Rattle.cxx_names.specs.Declarations as d
use Rattle.cxx_names.specs.LookUp as look
use Rattle.cxx_names.specs.Tables.{named}
use Rattle.cxx_distinct.specs.NamesIn as n
use Rattle.cxx_types.specs.Classes as classes
use Rattle.cxx_rules.specs.Sites.{Site}
use Rattle.cxx_rules.specs.DeclaredTwice as n2
use Rattle.guards.specs.declared.guard.GuardKind.{GuardKind}
use Rattle.guards.specs.declared.guard.GuardKind.TheVariants as guard
use Rattle.guards.specs.Guarding.{kind_of}
use Rattle.hamming_gen.specs.Positions.{check_words}
use Rattle.protect.specs.GuardedParts as g
use Rattle.protect.specs.GeneratedNames.{texts_of_part}
use Rattle.protect_laws.proofs.Exits.{front-of, back-of}
use Rattle.protect_laws.proofs.Known.{every-by}
use Rattle.protect_laws.specs.Strip.{AreKnown}
use Rattle.woven_rules.proofs.Wider.{IsWiderAt, IsWiderClass, lineage-same}
use Rattle.woven_rules.proofs.Lineages.{base_lineage, lineage-is, base-lineage-below}
use Rattle.woven_rules.proofs.Members.{members, IsGoodMember, good-members, tables-fit, have-entries, DifferFrom, AllDiffer, members-differ}
use Rattle.woven_rules.proofs.Tags as t
use Rattle.woven_rules.proofs.Tags.{Tag, IsSmall, IsKnown, tagged-foreign}
use Rattle.woven_rules.proofs.Keys.{Key, key, AreApart, name_of, IsKnownKey, IsAbsent, AllKnown, all-known, keys_of, extra_keys, first_keys, second_keys, check_keys, six_keys, keys-small, apart-each, cross, every-both, every-of}
use Rattle.woven_rules.proofs.Found.{inside_class}
use Rattle.woven_rules.proofs.World.{Setting, Own, source_of, woven_of, weave, site, ClassFacts, IsFound, Facts, guard_in, woven-avoid, IsClass, class-at, absent}

-- ---- lists

pub every-two : {A : Type 0} (P Q : A → Type 0) (xs : List A) → Every P xs → Every Q xs → Every (λ x. P x × Q x) xs
every-two P Q [] first second = tt
every-two P Q (x ∷ xs) first second = ((first.0, second.0), every-two P Q xs first.1 second.1)

-- what holds of each of two lists, the other way round
pub swapped : {A B : Type 0} (P : A → B → Type 0) (xs : List A) (ys : List B) → Every (λ x. Every (P x) ys) xs
    → Every (λ y. Every (λ x. P x y) xs) ys
swapped P xs [] all = tt
swapped P xs (y ∷ ys) all = (
  every-by (λ x. Every (P x) (y ∷ ys)) (λ x. P x y) (λ x both. both.0) xs all,
  swapped P xs ys
      (every-by (λ x. Every (P x) (y ∷ ys)) (λ x. Every (P x) ys) (λ x both. both.1) xs all),
)

pub any-false : {A : Type 0} (test : A → Bool) (xs : List A) → list_any test xs ≡ false
    → Every (λ x. test x ≡ false) xs
any-false test [] e = tt
any-false {A = A} test (x ∷ xs) e = by (λ f. any-false test xs f) (test x) refl e
  where
    by : (list_any test xs ≡ false → Every (λ y. test y ≡ false) xs) → (b : Bool) → test x ≡ b
        → (b || list_any test xs) ≡ false → Every (λ y. test y ≡ false) (x ∷ xs)
    by rest true is f = absurd (cc f)
    by rest false is f = (is, rest f)

pub none-any : {A : Type 0} (test : A → Bool) (xs : List A) → Every (λ x. test x ≡ false) xs
    → list_any test xs ≡ false
none-any test [] all = refl
none-any test (x ∷ xs) all = ap (λ b. b || list_any test xs) all.0 ∙ none-any test xs all.1

-- the names of members are among those of items
pub of-members : (P : Placed NameId → Type 0) (is : List ItemTree) → Every P (n.names_in_each n.names_in_item is)
    → Every (λ (m : Member). P m.name) (members is)
of-members P [] all = tt
of-members P (tree.label at a ∷ is) all = of-members P is all
of-members P (tree.member m ∷ is) all =
    let here = front-of P (n.names_in_item (tree.member m)) _ all in (
      (back-of P (n.names_in_type m.type_name) _ here).0,
      of-members P is
          (back-of P (n.names_in_item (tree.member m)) _ all),
    )
of-members P (tree.function f ∷ is) all = of-members P is (back-of P (n.names_in_item (tree.function f)) _ all)
of-members P (tree.ctor k ∷ is) all = of-members P is (back-of P (n.names_in_item (tree.ctor k)) _ all)
of-members P (tree.dtor k ∷ is) all = of-members P is (back-of P (n.names_in_item (tree.dtor k)) _ all)

-- ---- the keys of a class with a part

module _ (s : Setting) (k : ClassTree) (facts : ClassFacts s k) where
  abbrev pub ms : List Member
  ms = members k.items

  known-by : (kind : Option GuardKind) (xs : List Member)
      → AreKnown s.names (texts_of_part s.names (g.part_with k.name kind xs))
      → is_some (g.part_with k.name kind xs) ≡ true → AllKnown s.names (unwrap_or kind guard.Copies) k.name xs
  known-by None xs known some = absurd (cc some)
  known-by (Some kind) [] known some = absurd (cc some)
  known-by (Some kind) (m ∷ xs) known some = all-known s.names k.name kind (m ∷ xs) known

  pub part-known : is_some (g.part_of s.guards k) ≡ true → AllKnown s.names (guard_in s k) k.name ms
  part-known some = known-by (kind_of s.guards k.name.item) ms facts.known some

  ids-within : Every (λ (m : Member). m.name.item.0 < length s.names) ms
  ids-within =
      of-members (λ (x : Placed NameId). x.item.0 < length s.names) k.items
      (back-of (λ (x : Placed NameId). x.item.0 < length s.names) (n.names_in_base_of k.base) _ facts.within.1)

  tag-within : (a : Tag) (xs : List Member) → Every (λ (m : Member). m.name.item.0 < length s.names) xs
      → Every (λ (q : Key). q.id.0 < length s.names) (map (λ (m : Member). record { tag = a; id = m.name.item }) xs)
  tag-within a [] all = tt
  tag-within a (m ∷ xs) all = (all.0, tag-within a xs all.1)

  abbrev IsWithin : Key → Type 0
  IsWithin q = q.id.0 < length s.names

  extras-within : (kind : GuardKind) → Every IsWithin (extra_keys s.names kind k.name ms)
  extras-within guard.Copies =
      every-both IsWithin (first_keys s.names k.name ms) (second_keys s.names k.name ms)
      (tag-within t.first ms ids-within) (tag-within t.second ms ids-within)
  extras-within guard.Hamming =
      let js = range_with_len 0 (check_words (length ms)) in
      every-both IsWithin (check_keys s.names k.name js) (key t.parity k.name.item ∷ [])
      (every-of IsWithin (λ (j : ℕ). key (t.check j) k.name.item) (λ j. facts.within.0) js) (facts.within.0, tt)

  keys-within : Every IsWithin (keys_of s.names (guard_in s k) k.name ms)
  keys-within =
      let here = facts.within.0 in
      every-both IsWithin (extra_keys s.names (guard_in s k) k.name ms) (six_keys s.names k.name)
      (extras-within (guard_in s k)) (here, (here, (here, (here, (here, (here, tt))))))

  pub keys-known : is_some (g.part_of s.guards k) ≡ true
      → Every (IsKnownKey s.names) (keys_of s.names (guard_in s k) k.name ms)
  keys-known some =
      let ks = keys_of s.names (guard_in s k) k.name ms in
      every-two (λ (q : Key). IsKnown s.names q.tag q.id) (λ (q : Key). IsWithin q × IsSmall q.tag) ks
      (part-known some).keys
      (every-two IsWithin (λ (q : Key). IsSmall q.tag) ks keys-within
      (keys-small s.names k.name (guard_in s k) ms (facts.few some)))

-- ---- a class, and those above it

module _ (s : Setting) (f : Facts s) where
  -- a generated name is none of the program's
  pub key-foreign : (q : Key) → IsKnownKey s.names q → (j : ℕ) → Own s j → j ≢ (name_of s.names q).0
  key-foreign q known j own = tagged-foreign s.names s.before q.tag q.id known.0 j own

  -- classes with two numbers have two names
  pub other-class : (a b : ℕ) (k j : ClassTree) → IsFound s a k → IsFound s b j → a ≢ b
      → k.name.item.0 ≢ j.name.item.0
  other-class a b k j first second differ e =
      let same : Some (record { 0 = a }) ≡ Some (record { 0 = b }) =
      sym first.named_is ∙ (ap (d.class_named (source_of s)) e ∙ second.named_is) in
      differ (ap (λ (x : ClassId). x.0) (same_Some (record { 0 = a }) (record { 0 = b }) same))

  module _ (class : ℕ) (k : ClassTree) (c : IsFound s class k) where
    abbrev pub me : ClassId
    me = record { 0 = class }

    abbrev pub before_info : ClassInfo
    before_info = (d.class_items c.x k).info

    abbrev pub after_info : ClassInfo
    after_info = (d.class_items c.y (weave s k)).info

    abbrev pub place : Site
    place = record (site s) { context = inside_class class c.index }

    pub wider : IsWiderClass (Own s) before_info after_info
    wider =
        subst (λ o. IsWiderAt (Own s) o (Some after_info)) c.source_is
        (subst (λ o. IsWiderAt (Own s) (d.class_at (source_of s) me) o) c.woven_is (f.wide.classes me))

    abbrev pub above : List ClassId
    above = base_lineage (source_of s) f.built before_info.base

    pub lineage : look.lineage (woven_of s) me ≡ me ∷ above
    lineage =
        lineage-same (Own s) (source_of s) (woven_of s) f.wide me
        ∙ lineage-is (source_of s) f.built me before_info c.source_is

    pub above-before : Every (λ (b : ClassId). b.0 < class) above
    above-before = base-lineage-below (source_of s) f.built me before_info c.source_is

    pub differ : AllDiffer (members k.items)
    differ =
        members-differ place k.base before_info k.items (d.class_begun c.x k) (d.default_access k.word) 0 c.x.numbered
        classes.none_seen refl (λ j i e. absurd (none-some i e)) refl c.right

    pub good : Every (IsGoodMember place before_info) (members k.items)
    good = good-members place k.base before_info classes.none_seen k.items c.also.plain c.right

    -- the classes above have no item of a member's name
    inherited-by : (m : Member) (o : Option ClassId) → n2.is_inherited place o m.name ≡ false
        → Every (λ (b : ClassId). look.has_item_by m.name.item.0 (d.class_at (source_of s) b) ≡ false)
        (base_lineage (source_of s) f.built o)
    inherited-by m None e = tt
    inherited-by m (Some base) e =
        any-false (λ (b : ClassId). look.has_item_by m.name.item.0 (d.class_at (source_of s) b))
        (look.lineage (source_of s) base) e

    abbrev NoItem : ClassId → Member → Type 0
    NoItem b m = look.has_item_by m.name.item.0 (d.class_at (source_of s) b) ≡ false

    pub no-items : Every (λ (m : Member). Every (λ (b : ClassId). NoItem b m) above) (members k.items)
    no-items =
        every-by (IsGoodMember place before_info) (λ (m : Member). Every (λ (b : ClassId). NoItem b m) above)
        (λ m is. inherited-by m before_info.base is.0) (members k.items) good

    pub no-items-above : Every (λ (b : ClassId). Every (NoItem b) (members k.items)) above
    no-items-above = swapped (λ (m : Member) (b : ClassId). NoItem b m) (members k.items) above no-items

    none-by : (o : Option ClassInfo) (j : ℕ) (x : ClassInfo) → o ≡ Some x → look.has_item_by j o ≡ false
        → named x.items j ≡ None
    none-by o j x is e = by (named x.items j) refl
      where
        by : (u : Option ℕ) → named x.items j ≡ u → u ≡ None
        by None at = refl
        by (Some i) at = let z : true ≡ false =
            sym (ap is_some at) ∙ (sym (ap (look.has_item_by j) is) ∙ e) in absurd (cc z)

    -- so none of their members has the name of one of this class
    disjoint : (b : ℕ) (j : ClassTree) (other : IsFound s b j) → Every (NoItem (record { 0 = b })) (members k.items)
        → Every (λ (m : Member). DifferFrom m.name.item.0 (members j.items)) (members k.items)
    disjoint b j other none =
        every-by (NoItem (record { 0 = b })) (λ (m : Member). DifferFrom m.name.item.0 (members j.items)) one
        (members k.items) none
      where
        x : ClassInfo
        x = (d.class_items other.x j).info

        one : (m : Member) → NoItem (record { 0 = b }) m → DifferFrom m.name.item.0 (members j.items)
        one m no_item =
            let absent =
            none-by (d.class_at (source_of s) (record { 0 = b })) m.name.item.0 x other.source_is no_item in
            let unset =
            (tables-fit j.items (d.class_begun other.x j) (d.default_access j.word) 0 other.x.numbered
            (λ i e. (refl, refl)) m.name.item.0 absent).0 in
            every-by (λ (q : Member). (e : MemberInfo) × (named x.members q.name.item.0 ≡ Some e))
            (λ (q : Member). m.name.item.0 ≢ q.name.item.0)
            (λ q entry same. none-some entry.0 (sym unset ∙ (ap (named x.members) same ∙ entry.1))) (members j.items)
            (have-entries j.items (d.class_begun other.x j) (d.default_access j.word) 0 other.x.numbered)

    -- ---- what the part adds

    module _ (some : is_some (g.part_of s.guards k) ≡ true) where
      abbrev keys : List Key
      keys = keys_of s.names (guard_in s k) k.name (members k.items)

      known : Every (IsKnownKey s.names) keys
      known = keys-known s k c.also some

      key-absent : (b : ClassId) (info : ClassInfo) (q : IsClass s f b info) → b.0 < class
          → Every (NoItem b) (members k.items) → (x : Key) → IsKnownKey s.names x
          → Every (AreApart x) (keys_of s.names (guard_in s q.k) q.k.name (members q.k.items))
          → IsAbsent s.names info x
      key-absent b info q low none x is apart =
          absent s f b info q (name_of s.names x).0
          (woven-avoid s (name_of s.names x).0 (key-foreign x is) q.k q.is.also
          (λ also. apart-each s.names f.distinct x is
          (keys_of s.names (guard_in s q.k) q.k.name (members q.k.items)) (keys-known s q.k q.is.also also)
          apart))

      abbrev AbsentAt : ClassId → Key → Type 0
      AbsentAt b x = (info : ClassInfo) → d.class_at (woven_of s) b ≡ Some info → IsAbsent s.names info x

      all-absent : (b : ClassId) → (b.0 < class) × Every (NoItem b) (members k.items) → Every (AbsentAt b) keys
      all-absent b (low, none) =
          by (d.class_at (woven_of s) b) refl
        where
          by : (o : Option ClassInfo) → d.class_at (woven_of s) b ≡ o → Every (AbsentAt b) keys
          by None e =
              every-by (IsKnownKey s.names) (AbsentAt b) (λ x is info at. absurd (none-some info (sym e ∙ at))) keys
              known
          by (Some info) e =
              let q = class-at s f b info e in
              let apart =
              cross s.names k.name q.k.name (other-class class b.0 k q.k c q.is (λ same. absurd (omega arith)))
              (guard_in s k) (guard_in s q.k) (members k.items) (members q.k.items) (disjoint b.0 q.k q.is none)
              in
              every-by (λ x. IsKnownKey s.names x
              × Every (AreApart x) (keys_of s.names (guard_in s q.k) q.k.name (members q.k.items))) (AbsentAt b)
              (λ x both other at. subst (λ (u : ClassInfo). IsAbsent s.names u x) (same_Some info other (sym e ∙ at))
              (key-absent b info q low none x both.0 both.1)) keys
              (every-two (IsKnownKey s.names)
              (λ x. Every (AreApart x) (keys_of s.names (guard_in s q.k) q.k.name (members q.k.items))) keys known
              apart)

      -- none of its names stands in a class above
      pub keys-absent : Every (λ x. Every (λ (b : ClassId). AbsentAt b x) above) keys
      keys-absent =
          swapped (λ (b : ClassId) (x : Key). AbsentAt b x) above keys
          (every-by (λ (b : ClassId). (b.0 < class) × Every (NoItem b) (members k.items))
          (λ (b : ClassId). Every (AbsentAt b) keys) all-absent above
          (every-two (λ (b : ClassId). b.0 < class) (λ (b : ClassId). Every (NoItem b) (members k.items)) above
          above-before no-items-above))
