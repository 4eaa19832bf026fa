-- The distinct names of a protected program are few: those of its source, those of locals, and those of its parts.
use Rattle.std.proofs.Common.{◌≡◌, ◌≢◌, inl, inr, refl, sym, ap, ◌∙◌, subst, ℕ, zero, suc, ◌+◌, ◌*◌, ◌<◌, ◌≤◌, arith, Bool, true, false, List, [], ◌∷◌, ◌++◌, map, length, Some, is_some, codes, nat_eq, length-append}
use Rattle.std.proofs.lemmas.List.FromFn.{length-range_with_len}
use Rattle.std.proofs.lemmas.List.{length-map}
use Rattle.std.specs.List.{range_with_len}
use Rattle.std.proofs.lemmas.Option.{same_Some}
use Rattle.std.proofs.lemmas.Bool.{eqb-true}
use Rattle.agxx_base.specs.Names.{number_of}
use Rattle.agxx_base.specs.declared.ids.ClassId.{ClassId}
use Rattle.agxx_base.specs.declared.ids.NameId.{NameId}
use Rattle.agxx_base.specs.declared.kind.Mode.TheVariants as mode
use Rattle.cxx_tree.specs.declared.node.Placed.{Placed}
use Rattle.cxx_tree.specs.declared.program.Member.{Member}
use Rattle.cxx_tree.specs.Limits.{Every}
use Rattle.cxx_tree.specs.ProgramTree as tree
use Rattle.cxx_tree.specs.ProgramTree.{ClassTree, DeclTree}
use Rattle.cxx_names.specs.declared.declarations.ClassInfo.{ClassInfo}
use Rattle.cxx_names.specs.declared.declarations.Declared.{Declared}
use Rattle.cxx_names.specs.Declarations as d
use Rattle.cxx_names.specs.LookUp as look
use Rattle.cxx_types.specs.declared.programs.DeclsSeen.{DeclsSeen}
use Rattle.cxx_types.specs.Counts.{most}
use Rattle.cxx_types.specs.Programs as programs
use Rattle.cxx_rules.specs.Forms as form
use Rattle.cxx_rules.specs.ProgramForms as p
use Rattle.cxx_distinct.specs.NamesIn as n
use Rattle.cxx_distinct.specs.Sights.{first_sights}
use Rattle.cxx_make.specs.Generated.{named, numbered}
use Rattle.guards.specs.declared.guard.GuardKind.{GuardKind}
use Rattle.guards.specs.declared.guard.GuardKind.TheVariants as guard
use Rattle.guards.specs.Guarding.{kind_of}
use Rattle.hamming_gen.specs.Positions.{check_words}
use Rattle.entry_count.specs.PartCode.{enter, leave}
use Rattle.protect.specs.GuardedParts as g
use Rattle.protect.specs.Protected as z
use Rattle.woven_rules.proofs.Seen.{OwnNames, own-front, own-back}
use Rattle.woven_rules.proofs.Lineages.{head-kept}
use Rattle.woven_rules.proofs.PartsFound.{Any, HasPart, InLineage, parts-in}
use Rattle.woven_rules.proofs.Members.{members}
use Rattle.woven_rules.proofs.WrappedRight.{value_at}
use Rattle.woven_rules.proofs.Tags as t
use Rattle.woven_rules.proofs.Keys.{Key, key, name_of, keys_of, extra_keys, first_keys, second_keys, check_keys, six_keys, every-both}
use Rattle.woven_rules.proofs.Counting.{AreFew, few-front, few-back, not-limit}
use Rattle.woven_rules.proofs.Found as found
use Rattle.woven_rules.proofs.World.{Setting, source_of, woven_of, weave, parts_of, added_to, ClassFacts, guard_in, site, IsFound, Facts}
use Rattle.woven_rules.proofs.Inherits.{of-members}
use Rattle.woven_rules.proofs.OwnItems.{shown, added-is}
use Rattle.woven_rules.proofs.Procedures.{no-members, every-reverse}
use Rattle.woven_rules.proofs.Tables.{same-number}
use Rattle.woven_rules.proofs.AddedRight.{none-added}
use Rattle.woven_rules.proofs.PartLocals.{group}
use Rattle.woven_rules.proofs.Sights.{Elem, elem-front, elem-back, sights-few, distinct_numbers, names-elem, distinct-few}
use Rattle.woven_rules.proofs.WovenNames.{names-both, items-both, items-in}
use Rattle.woven_rules.proofs.AddedNames.{LocalsIn, added-in}
use Rattle.protect_laws.proofs.CheckWords.{few-checks}
use Rattle.protect_laws.proofs.Exits.{back-of}
use Rattle.protect_laws.proofs.Known.{every-by}

-- ---- lists

every-elem : {A : Type 0} (of : A → ℕ) (xs : List A) → Every (λ x. Elem (of x) (map of xs)) xs
every-elem of [] = tt
every-elem of (x ∷ xs) = (
  inl refl,
  every-by (λ y. Elem (of y) (map of xs)) (λ y. Elem (of y) (of x ∷ map of xs)) (λ y later. inr later) xs
      (every-elem of xs),
)

above-other : (i j : ℕ) → nat_eq i j ≡ false → i ≤ j → i + 1 ≤ j
above-other i j e above = let differ : i ≢ j =
    λ same. (let w : true ≡ false = sym (same-number j) ∙ (ap (λ x. nat_eq x j) (sym same) ∙ e) in cc w) in
    omega arith

abbrev numbers : List NameId → List ℕ
numbers xs = map (λ (x : NameId). x.0) xs

-- ---- names of locals

module _ (names : List (List ℕ)) where
  group-elem : (begins : List ℕ) (i k j : ℕ) → i ≤ j → j < i + k
      → Elem (numbered names begins j).0 (numbers (group names begins i k))
  group-elem begins i zero j above below = absurd (omega arith)
  group-elem begins i (suc k) j above below =
      by (nat_eq i j) refl (λ more. group-elem begins (i + 1) k j more (omega arith))
    where
      by : (b : Bool) → nat_eq i j ≡ b
          → (i + 1 ≤ j → Elem (numbered names begins j).0 (numbers (group names begins (i + 1) k)))
          → Elem (numbered names begins j).0 (numbers (group names begins i (suc k)))
      by true e later = inl (ap (λ x. (numbered names begins x).0) (sym (eqb-true i j e)))
      by false e later = inr (later (above-other i j e above))

  each-of : (Q : ℕ → Type 0) (begins : List ℕ) (i k : ℕ)
      → ((j : ℕ) → i ≤ j → j < i + k → Q (numbered names begins j).0)
      → Every (λ (x : NameId). Q x.0) (group names begins i k)
  each-of Q begins i zero one = tt
  each-of Q begins i (suc k) one = (
    one i (omega arith) (omega arith),
    each-of Q begins (i + 1) k
        (λ j above below. one j (omega arith) (omega arith)),
  )

  abbrev last_five : List ℕ
  last_five =
      (named names (codes "__gop_q")).0 ∷ (named names (codes "__gop_y")).0 ∷ (named names (codes "__gop_b")).0
      ∷ number_of names (codes "lock") ∷ number_of names (codes "unlock") ∷ []

  abbrev from_f : List ℕ
  from_f = numbers (group names (codes "__gop_f_") 0 121) ++ last_five

  abbrev from_e : List ℕ
  from_e = numbers (group names (codes "__gop_e_") 1 120) ++ from_f

  abbrev from_s : List ℕ
  from_s = numbers (group names (codes "__gop_s_") 0 121) ++ from_e

  abbrev from_x : List ℕ
  from_x = numbers (group names (codes "__gop_x_") 1 120) ++ from_s

  abbrev from_m : List ℕ
  from_m = numbers (group names (codes "__gop_m_") 1 120) ++ from_x

  -- the locals of all parts, and those for returned values
  abbrev shared : List ℕ
  shared = numbers (group names (codes "__gop_r_") 1 200) ++ from_m

  group-length : (begins : List ℕ) (i k : ℕ) → length (numbers (group names begins i k)) ≡ k
  group-length begins i k =
      length-map (group names begins i k) (λ (x : NameId). x.0)
      ∙ (length-map (range_with_len i k) (λ j. numbered names begins j) ∙ length-range_with_len i k)

  one-longer : (begins : List ℕ) (i k rest : ℕ) (others : List ℕ) → length others ≤ rest
      → length (numbers (group names begins i k) ++ others) ≤ k + rest
  one-longer begins i k rest others low =
      let whole = length-append (numbers (group names begins i k)) others in
      let here = group-length begins i k in
      omega arith

  shared-few : length shared ≤ 807
  shared-few =
      let f = one-longer (codes "__gop_f_") 0 121 5 last_five (omega arith) in
      let e = one-longer (codes "__gop_e_") 1 120 126 from_f (omega arith) in
      let x = one-longer (codes "__gop_s_") 0 121 246 from_e (omega arith) in
      let y = one-longer (codes "__gop_x_") 1 120 367 from_s (omega arith) in
      let m = one-longer (codes "__gop_m_") 1 120 487 from_x (omega arith) in
      let r = one-longer (codes "__gop_r_") 1 200 607 from_m (omega arith) in
      omega arith

  module _ (Q : ℕ → Type 0) (lift : (j : ℕ) → Elem j shared → Q j) where
    lift-m : (j : ℕ) → Elem j from_m → Q j
    lift-m j is = lift j (elem-back j (numbers (group names (codes "__gop_r_") 1 200)) from_m is)

    lift-x : (j : ℕ) → Elem j from_x → Q j
    lift-x j is = lift-m j (elem-back j (numbers (group names (codes "__gop_m_") 1 120)) from_x is)

    lift-s : (j : ℕ) → Elem j from_s → Q j
    lift-s j is = lift-x j (elem-back j (numbers (group names (codes "__gop_x_") 1 120)) from_s is)

    lift-e : (j : ℕ) → Elem j from_e → Q j
    lift-e j is = lift-s j (elem-back j (numbers (group names (codes "__gop_s_") 0 121)) from_e is)

    lift-f : (j : ℕ) → Elem j from_f → Q j
    lift-f j is = lift-e j (elem-back j (numbers (group names (codes "__gop_e_") 1 120)) from_f is)

    lift-last : (j : ℕ) → Elem j last_five → Q j
    lift-last j is = lift-f j (elem-back j (numbers (group names (codes "__gop_f_") 0 121)) last_five is)

    lock-in : Q (number_of names (codes "lock"))
    lock-in = lift-last (number_of names (codes "lock")) (inr (inr (inr (inl refl))))

    unlock-in : Q (number_of names (codes "unlock"))
    unlock-in = lift-last (number_of names (codes "unlock")) (inr (inr (inr (inr (inl refl)))))

    value-in : (k : ℕ) → k < 200 → Q (value_at names k).0
    value-in k low =
        lift (value_at names k).0 (elem-front (value_at names k).0 (numbers (group names (codes "__gop_r_") 1 200))
        from_m (group-elem (codes "__gop_r_") 1 200 (suc k) (omega arith) (omega arith)))

    in-group : (begins : List ℕ) (i k : ℕ) (others : List ℕ)
        → ((j : ℕ) → Elem j (numbers (group names begins i k) ++ others) → Q j) → (j : ℕ) → i ≤ j → j < i + k
        → Q (numbered names begins j).0
    in-group begins i k others up j above below =
        up (numbered names begins j).0
        (elem-front (numbered names begins j).0 (numbers (group names begins i k)) others
        (group-elem begins i k j above below))

    locals-in : (kind : GuardKind) (k : ℕ) → k ≤ 120 → LocalsIn Q names kind k
    locals-in guard.Copies k low =
        λ j above below. in-group (codes "__gop_m_") 1 120 from_x lift-m j above (omega arith)
    locals-in guard.Hamming k low =
        let r = check_words k in
        let few = few-checks k in
        let In = λ (x : NameId). Q x.0 in
        every-both In (group names (codes "__gop_x_") 1 k) _
        (each-of Q (codes "__gop_x_") 1 k
        (λ j above below. in-group (codes "__gop_x_") 1 120 from_s lift-x j above (omega arith)))
        (every-both In (group names (codes "__gop_s_") 0 r) _
        (each-of Q (codes "__gop_s_") 0 r
        (λ j above below. in-group (codes "__gop_s_") 0 121 from_e lift-s j above (omega arith))) (
          lift-last (named names (codes "__gop_q")).0 (inl refl),
          (
            lift-last (named names (codes "__gop_y")).0 (inr (inl refl)),
            every-both In (group names (codes "__gop_e_") 1 k) _
                (each-of Q (codes "__gop_e_") 1 k
                (λ j above below. in-group (codes "__gop_e_") 1 120 from_f lift-e j above (omega arith)))
                (every-both In (group names (codes "__gop_f_") 0 r) _
                (each-of Q (codes "__gop_f_") 0 r
                (λ j above below. in-group (codes "__gop_f_") 0 121 last_five lift-f j above (omega arith)))
                (lift-last (named names (codes "__gop_b")).0 (inr (inr (inl refl))), tt)),
          ),
        ))

-- ---- names of parts

keys-few : (names : List (List ℕ)) (kind : GuardKind) (class : Placed NameId) (ms : List Member) → length ms ≤ 120
    → length (keys_of names kind class ms) ≤ 246
keys-few names guard.Copies class ms low =
    let one = length-map ms (λ (m : Member). key t.first m.name.item) in
    let two = length-map ms (λ (m : Member). key t.second m.name.item) in
    let both = length-append (first_keys names class ms) (second_keys names class ms) in
    let all = length-append (first_keys names class ms ++ second_keys names class ms) (six_keys names class) in
    omega arith
keys-few names guard.Hamming class ms low =
    let js = range_with_len 0 (check_words (length ms)) in
    let one = length-map js (λ j. key (t.check j) class.item) in
    let two = length-range_with_len 0 (check_words (length ms)) in
    let few = few-checks (length ms) in
    let both = length-append (check_keys names class js) (key t.parity class.item ∷ []) in
    let all = length-append (check_keys names class js ++ key t.parity class.item ∷ []) (six_keys names class) in
    omega arith

abbrev classes_in : List DeclTree → ℕ
classes_in [] = 0
classes_in (tree.class k ∷ ds) = suc (classes_in ds)
classes_in (tree.class_name k ∷ ds) = classes_in ds
classes_in (tree.free_function h ∷ ds) = classes_in ds
classes_in (tree.proto h ∷ ds) = classes_in ds
classes_in (tree.global h ∷ ds) = classes_in ds

module _ (s : Setting) where
  abbrev names : List (List ℕ)
  names = s.names

  abbrev keys_if : Bool → List Key → List ℕ
  keys_if true ks = map (λ q. (name_of names q).0) ks
  keys_if false ks = []

  abbrev own_keys : ClassTree → List Key
  own_keys k = keys_of names (guard_in s k) k.name (members k.items)

  abbrev class_keys : ClassTree → List ℕ
  class_keys k = keys_if (is_some (g.part_of s.guards k)) (own_keys k)

  abbrev all_keys : List DeclTree → List ℕ
  all_keys [] = []
  all_keys (tree.class k ∷ ds) = class_keys k ++ all_keys ds
  all_keys (tree.class_name k ∷ ds) = all_keys ds
  all_keys (tree.free_function h ∷ ds) = all_keys ds
  all_keys (tree.proto h ∷ ds) = all_keys ds
  all_keys (tree.global h ∷ ds) = all_keys ds

  -- ---- what covers the names of the protected program

  abbrev source_names : List (Placed NameId)
  source_names = n.names_in_each n.names_in_decl s.ds

  abbrev cover : List ℕ
  cover = distinct_numbers source_names ++ (shared names ++ all_keys s.ds)

  abbrev Q : ℕ → Type 0
  Q j = Elem j cover

  lift-shared : (j : ℕ) → Elem j (shared names) → Q j
  lift-shared j is = elem-back j (distinct_numbers source_names) _ (elem-front j (shared names) (all_keys s.ds) is)

  lift-keys : (j : ℕ) → Elem j (all_keys s.ds) → Q j
  lift-keys j is = elem-back j (distinct_numbers source_names) _ (elem-back j (shared names) (all_keys s.ds) is)

  source-in : OwnNames Q source_names
  source-in =
      every-by (λ (x : Placed NameId). Elem x.item.0 (distinct_numbers source_names))
      (λ (x : Placed NameId). Q x.item.0) (λ x is. elem-front x.item.0 (distinct_numbers source_names) _ is)
      source_names (names-elem source_names)

  abbrev KeysIn : ClassTree → Type 0
  KeysIn k = is_some (g.part_of s.guards k) ≡ true → Every (λ q. Q (name_of names q).0) (own_keys k)

  class-keys-in : (k : ClassTree) → ((j : ℕ) → Elem j (class_keys k) → Q j) → KeysIn k
  class-keys-in k up some =
      every-by (λ q. Elem (name_of names q).0 (map (λ x. (name_of names x).0) (own_keys k)))
      (λ q. Q (name_of names q).0)
      (λ q is. up (name_of names q).0 (subst (λ b. Elem (name_of names q).0 (keys_if b (own_keys k))) (sym some) is))
      (own_keys k) (every-elem (λ q. (name_of names q).0) (own_keys k))

  each-keys : (ds : List DeclTree) → ((j : ℕ) → Elem j (all_keys ds) → Q j)
      → found.OfEach s.before s.names (weave s) KeysIn ds
  each-keys [] up = tt
  each-keys (tree.class k ∷ ds) up = (
    class-keys-in k (λ j is. up j (elem-front j (class_keys k) (all_keys ds) is)),
    each-keys ds
        (λ j is. up j (elem-back j (class_keys k) (all_keys ds) is)),
  )
  each-keys (tree.class_name k ∷ ds) up = each-keys ds up
  each-keys (tree.free_function h ∷ ds) up = each-keys ds up
  each-keys (tree.proto h ∷ ds) up = each-keys ds up
  each-keys (tree.global h ∷ ds) up = each-keys ds up

  abbrev BothOf : ClassTree → Type 0
  BothOf k = ClassFacts s k × KeysIn k

  abbrev AllFound : ℕ → List DeclTree → Type 0
  AllFound class ds = found.AllFound s.before s.names (weave s) (ClassFacts s) (site s) (woven_of s) class ds

  all-both : (class : ℕ) (ds : List DeclTree) → AllFound class ds → found.OfEach s.before s.names (weave s) KeysIn ds
      → found.AllFound s.before s.names (weave s) BothOf (site s) (woven_of s) class ds
  all-both class [] all keys = tt
  all-both class (tree.class k ∷ ds) all keys =
      let c = all.0 in (
        record {
          x = c.x;
          y = c.y;
          source_is = c.source_is;
          woven_is = c.woven_is;
          named_is = c.named_is;
          index =
              c.index;
          right = c.right;
          also = (c.also, keys.0);
        },
        all-both (suc class) ds all.1 keys.1,
      )
  all-both class (tree.class_name k ∷ ds) all keys = all-both class ds all keys
  all-both class (tree.free_function h ∷ ds) all keys = all-both class ds all keys
  all-both class (tree.proto h ∷ ds) all keys = all-both class ds all keys
  all-both class (tree.global h ∷ ds) all keys = all-both class ds all keys

  module _ (f' : Facts s) (few : s.most ≤ 200) where
    -- ---- functions of the parts of objects

    abbrev IsCovered : NameId → Type 0
    IsCovered name = Q (enter names name).0 × Q (leave names name).0

    part-covered : (name : NameId) (b : ClassId) → HasPart s.guards (source_of s) f'.built name b → IsCovered name
    part-covered name b has =
        let q =
        found.class-of s.before s.names (weave s) BothOf (site s) (woven_of s) s.ds
        (all-both 0 s.ds f'.found (each-keys s.ds lift-keys)) refl b has.info has.is in
        let k = q.0 in
        let x = (d.class_items q.1.x k).info in
        let same : has.info ≡ x = same_Some has.info x (sym has.is ∙ q.1.source_is) in
        let named_so : k.name.item ≡ name =
        sym (ap (λ (u : Placed NameId). u.item)
        (head-kept k.items (d.class_begun q.1.x k) (d.default_access k.word) 0 q.1.x.numbered).0)
        ∙ (ap (λ (u : ClassInfo). u.name.item) (sym same) ∙ has.name_is) in
        let some =
        has-part k (ap (kind_of s.guards) named_so ∙ has.guarded)
        (λ none. let empty = no-members k.items none (d.class_begun q.1.x k) (d.default_access k.word) 0
        q.1.x.numbered in
        let w : [] ≡ has.first ∷ has.others =
        sym empty ∙ (ap (λ (u : ClassInfo). u.members) (sym same) ∙ has.members) in cc w) in
        let six =
        back-of (λ x. Q (name_of names x).0) (extra_keys names (guard_in s k) k.name (members k.items))
        (six_keys names k.name) (q.1.also.1 some) in
        subst IsCovered named_so (
          subst (λ (i : NameId). Q i.0) (sym (t.enter-is names k.name.item)) six.1.1.1.1.0,
          subst (λ (i : NameId). Q i.0) (sym (t.leave-is names k.name.item)) six.1.1.1.1.1.0,
        )
      where
        has-part : (k : ClassTree) → kind_of s.guards k.name.item ≡ Some has.kind → (members k.items ≡ [] → ⊥)
            → is_some (g.part_of s.guards k) ≡ true
        has-part k guarded some =
            ap (λ o. is_some (g.part_with k.name o (members k.items))) guarded ∙ by (members k.items) some
          where
            by : (xs : List Member) → (xs ≡ [] → ⊥) → is_some (g.part_with k.name (Some has.kind) xs) ≡ true
            by [] any = absurd (any refl)
            by (m ∷ xs) any = refl

    any-covered : (name : NameId) (cs : List ClassId) → Any (HasPart s.guards (source_of s) f'.built name) cs
        → IsCovered name
    any-covered name [] some = absurd some
    any-covered name (c ∷ cs) (inl here) = part-covered name c here
    any-covered name (c ∷ cs) (inr later) = any-covered name cs later

    parts-covered : (class : ℕ) (k : ClassTree) → IsFound s class k → Every IsCovered (parts_of s k)
    parts-covered class k c =
        let lists = ap (λ (x : Declared). g.parts_named x (g.guarded_parts s.guards x) k.name.item) f'.same in
        let mine = ap (g.parts_by (g.guarded_parts s.guards (source_of s))) c.named_is in
        subst (Every IsCovered) (sym (lists ∙ mine))
        (every-by (InLineage s.guards (source_of s) f'.built (record { 0 = class })) IsCovered
        (λ name some. any-covered name (look.lineage (source_of s) (record { 0 = class })) some)
        (g.parts_by (g.guarded_parts s.guards (source_of s)) (Some (record { 0 = class })))
        (parts-in s.guards (source_of s) f'.built (record { 0 = class })))

    -- ---- classes and declarations

    added-names : (class : ℕ) (k : ClassTree) (c : IsFound s class k)
        → Every (λ (m : Member). Q m.name.item.0) (members k.items) → KeysIn k
        → OwnNames Q (n.names_in_each n.names_in_item (added_to s k))
    added-names class k c own keys = by (is_some (g.part_of s.guards k)) refl
      where
        by : (b : Bool) → is_some (g.part_of s.guards k) ≡ b
            → OwnNames Q (n.names_in_each n.names_in_item (added_to s k))
        by true some =
            subst (λ is. OwnNames Q (n.names_in_each n.names_in_item is)) (sym (added-is s f' class k c some))
            (added-in Q names k.name (members k.items) own (lock-in names Q lift-shared)
            (unlock-in names Q lift-shared) (guard_in s k) (keys some)
            (locals-in names Q lift-shared (guard_in s k) (length (members k.items)) (c.also.few some)) k.at
            (shown s f' class k c))
        by false none =
            subst (λ is. OwnNames Q (n.names_in_each n.names_in_item is))
            (sym (none-added s f' class k c 0 0 0 (kind_of s.guards k.name.item) (members k.items) none)) tt

    class-in : (class : ℕ) (k : ClassTree) (c : IsFound s class k) → OwnNames Q (n.names_in_class k) → KeysIn k
        → OwnNames Q (n.names_in_class (weave s k))
    class-in class k c own keys =
        let base = n.names_in_base_of k.base in
        let items = own-back Q base _ own.1 in
        let parts = parts-covered class k c in
        let enters =
        every-by IsCovered (λ (name : NameId). Q (enter names name).0) (λ name is. is.0) (parts_of s k) parts in
        let leaves =
        every-by IsCovered (λ (name : NameId). Q (leave names name).0) (λ name is. is.1) (parts_of s k) parts in (
          own.0,
          names-both Q base _ (own-front Q base _ own.1)
              (items-both Q (map (z.wrapped_item names (parts_of s k)) k.items) (added_to s k)
              (items-in Q names s.most (λ j low. value-in names Q lift-shared j (omega arith)) (parts_of s k) enters
              (every-reverse (λ (name : NameId). Q (leave names name).0) (parts_of s k) leaves) k.items items
              c.also.returns)
              (added-names class k c (of-members (λ (x : Placed NameId). Q x.item.0) k.items items) keys)),
        )

    abbrev woven_decl : DeclTree → DeclTree
    woven_decl = found.woven_decl s.before s.names (weave s) (ClassFacts s)

    decls-in : (class : ℕ) (ds : List DeclTree) → AllFound class ds
        → found.OfEach s.before s.names (weave s) KeysIn ds → OwnNames Q (n.names_in_each n.names_in_decl ds)
        → OwnNames Q (n.names_in_each n.names_in_decl (map woven_decl ds))
    decls-in class [] all keys own = tt
    decls-in class (tree.class k ∷ ds) all keys own =
        names-both Q (n.names_in_class (weave s k)) _
        (class-in class k all.0 (own-front Q (n.names_in_class k) _ own) keys.0)
        (decls-in (suc class) ds all.1 keys.1 (own-back Q (n.names_in_class k) _ own))
    decls-in class (tree.class_name k ∷ ds) all keys own = decls-in class ds all keys own
    decls-in class (tree.free_function h ∷ ds) all keys own =
        names-both Q (n.names_in_function h) _ (own-front Q (n.names_in_function h) _ own)
        (decls-in class ds all keys (own-back Q (n.names_in_function h) _ own))
    decls-in class (tree.proto h ∷ ds) all keys own = decls-in class ds all keys own
    decls-in class (tree.global h ∷ ds) all keys own =
        names-both Q (n.names_in_global h) _ (own-front Q (n.names_in_global h) _ own)
        (decls-in class ds all keys (own-back Q (n.names_in_global h) _ own))

    -- ---- how many there are

    class-keys-few : (class : ℕ) (k : ClassTree) → IsFound s class k → length (class_keys k) ≤ 246
    class-keys-few class k c = by (is_some (g.part_of s.guards k)) refl
      where
        by : (b : Bool) → is_some (g.part_of s.guards k) ≡ b → length (keys_if b (own_keys k)) ≤ 246
        by true some =
            let low = keys-few names (guard_in s k) k.name (members k.items) (c.also.few some) in
            let same = length-map (own_keys k) (λ q. (name_of names q).0) in
            omega arith
        by false none = omega arith

    all-keys-few : (class : ℕ) (ds : List DeclTree) → AllFound class ds → length (all_keys ds) ≤ 246 * classes_in ds
    all-keys-few class [] all = omega arith
    all-keys-few class (tree.class k ∷ ds) all =
        let here = class-keys-few class k all.0 in
        let rest = all-keys-few (suc class) ds all.1 in
        let both = length-append (class_keys k) (all_keys ds) in
        omega arith
    all-keys-few class (tree.class_name k ∷ ds) all = all-keys-few class ds all
    all-keys-few class (tree.free_function h ∷ ds) all = all-keys-few class ds all
    all-keys-few class (tree.proto h ∷ ds) all = all-keys-few class ds all
    all-keys-few class (tree.global h ∷ ds) all = all-keys-few class ds all

    classes-few : (ds : List DeclTree) (seen : DeclsSeen) → seen.classes ≤ 256
        → AreFew (most mode.Source) (p.forms_of_decls (site s) seen ds) → seen.classes + classes_in ds ≤ 256
    classes-few [] seen low all = omega arith
    classes-few (tree.class k ∷ ds) seen low all =
        let here = few-front (most mode.Source) (p.forms_of_decl (site s) seen (tree.class k)) _ all in
        let other : seen.classes ≢ 256 = not-limit (most mode.Source) form.classes seen.classes k.name.at here.0 in
        let rest =
        classes-few ds (programs.next_seen (tree.class k) seen) (omega arith)
        (few-back (most mode.Source) (p.forms_of_decl (site s) seen (tree.class k)) _ all) in
        omega arith
    classes-few (tree.class_name k ∷ ds) seen low all =
        classes-few ds (programs.next_seen (tree.class_name k) seen) low all
    classes-few (tree.free_function h ∷ ds) seen low all =
        classes-few ds (programs.next_seen (tree.free_function h) seen) low
        (few-back (most mode.Source) (p.forms_of_decl (site s) seen (tree.free_function h)) _ all)
    classes-few (tree.proto h ∷ ds) seen low all = classes-few ds (programs.next_seen (tree.proto h) seen) low all
    classes-few (tree.global h ∷ ds) seen low all =
        classes-few ds (programs.next_seen (tree.global h) seen) low
        (few-back (most mode.Source) (p.forms_of_decl (site s) seen (tree.global h)) _ all)

    pub woven-names-few : length (first_sights source_names) ≤ 100000
        → AreFew (most mode.Source) (p.forms_of_decls (site s) programs.none_seen s.ds)
        → length (first_sights (n.names_in_each n.names_in_decl (map woven_decl s.ds))) ≤ 200000
    woven-names-few low all =
        let covered =
        sights-few cover (n.names_in_each n.names_in_decl (map woven_decl s.ds))
        (decls-in 0 s.ds f'.found (each-keys s.ds lift-keys) source-in) in
        let one = length-append (distinct_numbers source_names) (shared names ++ all_keys s.ds) in
        let two = length-append (shared names) (all_keys s.ds) in
        let own = distinct-few source_names in
        let keys = all-keys-few 0 s.ds f'.found in
        let classes = classes-few s.ds programs.none_seen (omega arith) all in
        let some = shared-few names in
        omega arith
