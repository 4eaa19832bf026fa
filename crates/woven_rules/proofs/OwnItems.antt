-- What a class with a part adds, and its own members, as they are looked up in its functions.
use Rattle.std.proofs.Common.{◌≡◌, refl, sym, ap, ◌∙◌, subst, ℕ, suc, true, false, ◌||◌, if◌then◌else◌, List, [], ◌∷◌, ◌++◌, map, length, Option, Some, None, is_some}
use Rattle.std.specs.List.{list_any, range_with_len}
use Rattle.std.specs.Option.{unwrap_or}
use Rattle.std.proofs.lemmas.Option.{none-some}
use Rattle.agxx_base.specs.declared.ids.ClassId.{ClassId}
use Rattle.agxx_base.specs.declared.ids.NameId.{NameId}
use Rattle.agxx_base.specs.declared.kind.NumKind.{NumKind}
use Rattle.agxx_base.specs.declared.kind.NumKind.TheVariants as num
use Rattle.agxx_base.specs.declared.place.Place.{Place}
use Rattle.cxx_tree.specs.declared.node.Placed.{Placed}
use Rattle.cxx_tree.specs.declared.program.Access.{Access}
use Rattle.cxx_tree.specs.declared.program.Access.TheVariants as access
use Rattle.cxx_tree.specs.declared.program.Member.{Member}
use Rattle.cxx_tree.specs.declared.program.TypeName.{TypeName}
use Rattle.cxx_tree.specs.declared.program.TypeName.TheVariants as type_name
use Rattle.cxx_tree.specs.Limits.{Every}
use Rattle.cxx_tree.specs.Fits.{IsNumberType}
use Rattle.cxx_tree.specs.ProgramTree as tree
use Rattle.cxx_tree.specs.ProgramTree.{ItemTree, ClassTree}
use Rattle.cxx_names.specs.declared.declarations.ClassInfo.{ClassInfo}
use Rattle.cxx_names.specs.declared.declarations.MemberInfo.{MemberInfo}
use Rattle.cxx_names.specs.declared.declarations.Declared.{Declared}
use Rattle.cxx_names.specs.declared.types.ValueType.TheVariants as value
use Rattle.cxx_names.specs.declared.types.Thing.TheVariants as thing
use Rattle.cxx_names.specs.Declarations as d
use Rattle.cxx_names.specs.LookUp as look
use Rattle.cxx_names.specs.Tables.{named}
use Rattle.cxx_distinct.specs.NamesIn as n
use Rattle.cxx_types.specs.Access.{may_use}
use Rattle.cxx_types.specs.Classes as classes
use Rattle.cxx_types.specs.declared.classes.ItemsSeen.{ItemsSeen}
use Rattle.guards.specs.declared.guard.GuardKind.{GuardKind}
use Rattle.guards.specs.declared.guard.GuardKind.TheVariants as guard
use Rattle.guards.specs.Guarding.{kind_of}
use Rattle.codec.specs.Part.{unsigned_of}
use Rattle.codec.specs.Copies as copies
use Rattle.hamming_gen.specs.Positions.{check_words}
use Rattle.hamming_gen.specs.HammingNames as hamming
use Rattle.hamming_gen.specs.HammingTrees as h
use Rattle.entry_count.specs.PartCode as code
use Rattle.protect.specs.GuardedParts as g
use Rattle.protect.specs.Protected as z
use Rattle.woven_rules.proofs.Tables.{same-number}
use Rattle.woven_rules.proofs.Wider.{member-same}
use Rattle.woven_rules.proofs.Seen.{own-back}
use Rattle.woven_rules.proofs.Standing.{kept, behind, shown_behind, count_behind, number_behind, behind-both, AreNew, Stand, stand, member_behind, function_behind, ctor_behind, dtor_behind}
use Rattle.woven_rules.proofs.Lineages.{lineage-is}
use Rattle.woven_rules.proofs.Members.{members, IsGoodMember, HoldNumbers, hold-numbers, have-entries, tables-fit}
use Rattle.woven_rules.proofs.Tags as t
use Rattle.woven_rules.proofs.Keys.{Key, name_of, IsKnownKey, IsAbsent, Keyed, keys_of, extra_keys, six_keys, extra_members, items_of, six_items, items-are, extras-keyed, all-keyed, keys-apart, are-new, every-both, every-of}
use Rattle.woven_rules.proofs.WrappedClasses.{seen_after}
use Rattle.woven_rules.proofs.Found as found
use Rattle.woven_rules.proofs.World.{Setting, ClassFacts, site, Own, source_of, woven_of, weave, parts_of, added_to, IsFound, Facts, guard_in, own-avoid}
use Rattle.woven_rules.proofs.Inherits.{of-members, keys-known, key-foreign, me, before_info, after_info, place, lineage, above, no-items, good, differ, keys-absent}
use Rattle.protect_laws.proofs.Exits.{front-of, back-of}
use Rattle.protect_laws.proofs.Known.{every-by}

-- ---- lists

topmost-none : {A : Type 0} (find : ClassId → Option A) (found : Option (ClassId × A)) (cs : List ClassId)
    → Every (λ (c : ClassId). find c ≡ None) cs → look.topmost find found cs ≡ found
topmost-none find found [] all = refl
topmost-none find found (c ∷ cs) all =
    ap (λ o. look.topmost find (look.or_next (look.found_in c o) found) cs) all.0 ∙ topmost-none find found cs all.1

-- what the first has and no other
pub topmost-first : {A : Type 0} (find : ClassId → Option A) (c : ClassId) (x : A) (cs : List ClassId)
    → find c ≡ Some x → Every (λ (b : ClassId). find b ≡ None) cs → look.topmost find None (c ∷ cs) ≡ Some (c, x)
topmost-first find c x cs is none =
    ap (λ o. look.topmost find (look.or_next (look.found_in c o) None) cs) is
    ∙ topmost-none find (Some (c, x)) cs none

-- ---- the label before what is added

opening-new : (y : ClassInfo) (at : Place) (shown : Access) (is : List ItemTree) → AreNew y is
    → AreNew y (z.opening at shown ++ is)
opening-new y at access.Public is new = new
opening-new y at access.Protected is new = new
opening-new y at access.Private is new = new

-- the count behind it
abbrev pub opened : Access → ℕ → ℕ
opened access.Public count = count
opened access.Protected count = suc count
opened access.Private count = suc count

opening-stands : (y : ClassInfo) (at : Place) (shown : Access) (count : ℕ) (is : List ItemTree)
    → Stand y shown count (z.opening at shown ++ is) → Stand y access.Public (opened shown count) is
opening-stands y at access.Public count is stands = stands
opening-stands y at access.Protected count is stands = stands
opening-stands y at access.Private count is stands = stands

-- wrapping changes neither the access nor the count behind items
shown-is : (names : List (List ℕ)) (parts : List NameId) (is : List ItemTree) (y : ClassInfo) (shown : Access)
    (count n : ℕ) → shown_behind y shown count n (map (z.wrapped_item names parts) is) ≡ z.last_access shown is
shown-is names parts [] y shown count n = refl
shown-is names parts (tree.label at a ∷ is) y shown count n = shown-is names parts is y a (suc count) n
shown-is names parts (tree.member m ∷ is) y shown count n =
    shown-is names parts is (member_behind y shown count n m) shown (suc count) n
shown-is names parts (tree.function f ∷ is) y shown count n =
    shown-is names parts is (function_behind y shown count n (z.wrapped_function names parts f)) shown (suc count)
    (suc n)
shown-is names parts (tree.ctor k ∷ is) y shown count n =
    shown-is names parts is (ctor_behind y shown count n (z.wrapped_ctor names parts k)) shown (suc count) (suc n)
shown-is names parts (tree.dtor k ∷ is) y shown count n =
    shown-is names parts is (dtor_behind y shown count n) shown (suc count) (suc n)

count-is : (names : List (List ℕ)) (parts : List NameId) (is : List ItemTree) (y : ClassInfo) (shown : Access)
    (count n : ℕ) (seen : ItemsSeen) → seen.index ≡ count
    → count_behind y shown count n (map (z.wrapped_item names parts) is) ≡ (seen_after seen is).index
count-is names parts [] y shown count n seen at = sym at
count-is names parts (tree.label place a ∷ is) y shown count n seen at =
    count-is names parts is y a (suc count) n (classes.next_seen (tree.label place a) seen) (ap suc at)
count-is names parts (tree.member m ∷ is) y shown count n seen at =
    count-is names parts is (member_behind y shown count n m) shown (suc count) n
    (classes.next_seen (tree.member m) seen) (ap suc at)
count-is names parts (tree.function f ∷ is) y shown count n seen at =
    count-is names parts is (function_behind y shown count n (z.wrapped_function names parts f)) shown (suc count)
    (suc n) (classes.next_seen (tree.function f) seen) (ap suc at)
count-is names parts (tree.ctor k ∷ is) y shown count n seen at =
    count-is names parts is (ctor_behind y shown count n (z.wrapped_ctor names parts k)) shown (suc count) (suc n)
    (classes.next_seen (tree.ctor k) seen) (ap suc at)
count-is names parts (tree.dtor k ∷ is) y shown count n seen at =
    count-is names parts is (dtor_behind y shown count n) shown (suc count) (suc n)
    (classes.next_seen (tree.dtor k) seen) (ap suc at)

turned : (y : ClassInfo) (a b : Access) (i j : ℕ) (is : List ItemTree) → a ≡ b → i ≡ j → Stand y a i is
    → Stand y b j is
turned y a b i j is shown count stands = subst (λ u. Stand y u j is) shown (subst (λ u. Stand y a u is) count stands)

-- ---- members among items that stand

abbrev pub HasMember : ClassInfo → Access → Member → Type 0
HasMember y shown m = named y.members m.name.item.0 ≡ Some (record { type_name = m.type_name.item; access = shown })

pub members-stand : (y : ClassInfo) (shown : Access) (count : ℕ) (xs : List Member) (is : List ItemTree)
    → Stand y shown count (map tree.member xs ++ is) → Every (HasMember y shown) xs × ((j : ℕ) × Stand y shown j is)
members-stand y shown count [] is stands = (tt, (count, stands))
members-stand y shown count (m ∷ xs) is stands = let rest =
    members-stand y shown (suc count) xs is stands.1 in ((stands.0.1, rest.0), rest.1)

-- ---- number types

abbrev pub IsNumMember : Member → Type 0
IsNumMember m = (kind : NumKind) × (m.type_name.item ≡ type_name.Num kind)

-- what codes add holds numbers
pub extra-numbers : (names : List (List ℕ)) (kind : GuardKind) (class : Placed NameId) (xs : List Member)
    → Every IsNumMember (extra_members names kind class xs)
extra-numbers names guard.Copies class xs =
    every-both IsNumMember (map (copies.first_member names class.at) xs)
    (map (copies.second_member names class.at) xs)
    (every-of IsNumMember (copies.first_member names class.at) (λ m. (unsigned_of m, refl)) xs)
    (every-of IsNumMember (copies.second_member names class.at) (λ m. (unsigned_of m, refl)) xs)
extra-numbers names guard.Hamming class xs =
    let js = range_with_len 0 (check_words (length xs)) in
    let check = λ (j : ℕ). h.word_member class.at (hamming.check_name names class.item j) in
    every-both IsNumMember (map check js) (h.word_member class.at (hamming.parity_name names class.item) ∷ [])
    (every-of IsNumMember check (λ j. (num.U64, refl)) js) ((num.U64, refl), tt)

number-thing : (x : Declared) (u : TypeName) → IsNumberType u
    → (k : NumKind) × (look.thing_of x u ≡ thing.Value (value.Number k))
number-thing x (type_name.Num k) is = (k, refl)
number-thing x type_name.Int is = (num.I32, refl)
number-thing x type_name.Unsigned is = (num.U32, refl)
number-thing x type_name.Void is = absurd is
number-thing x (type_name.Pointer class) is = absurd is
number-thing x type_name.Mutex is = absurd is

-- a class uses what is its own
pub own-usable : (x : Declared) (a : Access) (c : ClassId) → may_use x a c c c ≡ true
own-usable x access.Public c = refl
own-usable x access.Protected c =
    ap (λ b. if b then look.derives x c c else false) (derives-itself x c) ∙ derives-itself x c
  where
    derives-itself : (x : Declared) (c : ClassId) → look.derives x c c ≡ true
    derives-itself x c =
        ap (λ b. b || list_any (look.same_class c) (look.above x.classes (look.ancestors_by (d.class_at x c)) c))
        (same-number c.0)
own-usable x access.Private c = ap (λ b. if b then look.same_class c c else false) (same-number c.0) ∙ same-number c.0

-- ---- a class with a part

module _ (s : Setting) (f : Facts s) (class : ℕ) (k : ClassTree) (c : IsFound s class k) where
  abbrev pub ms : List Member
  ms = members k.items

  abbrev pub shown : Access
  shown = z.last_access (d.default_access k.word) k.items

  abbrev begun : ClassInfo
  begun = d.class_begun c.y (weave s k)

  abbrev wrapped : List ItemTree
  wrapped = map (z.wrapped_item s.names (parts_of s k)) k.items

  -- a member that the class itself has, or the part, as its name is looked up
  pub record MemberFound (j : ℕ) : Type 0 where
    pub entry : MemberInfo
    pub is : look.member_named (woven_of s) (me s f class k c) j ≡ Some (me s f class k c, entry)

  pub record IsNumberMember (j : ℕ) : Type 0 where
    pub entry : MemberInfo
    pub is : look.member_named (woven_of s) (me s f class k c) j ≡ Some (me s f class k c, entry)
    pub kind : NumKind
    pub number : look.thing_of (woven_of s) entry.type_name ≡ thing.Value (value.Number kind)

  -- ---- its own members

  pub own-found : Every (λ (m : Member). IsNumberMember m.name.item.0) ms
  own-found =
      by ms (have-entries k.items (d.class_begun c.x k) (d.default_access k.word) 0 c.x.numbered)
      (no-items s f class k c) ids
    where
      entries : HoldNumbers (before_info s f class k c).members
      entries =
          hold-numbers k.items (every-by (IsGoodMember (place s f class k c) (before_info s f class k c))
          (λ (m : Member). IsNumberType m.type_name.item) (λ m is. is.1) ms (good s f class k c))
          (d.class_begun c.x k) (d.default_access k.word) 0 c.x.numbered (λ j e at. absurd (none-some e at))

      ids : Every (λ (m : Member). Own s m.name.item.0) ms
      ids =
          of-members (λ (x : Placed NameId). Own s x.item.0) k.items
          (own-back (Own s) (n.names_in_base_of k.base) _ c.also.own.1)

      no-entry : (j : ℕ) (x : ClassInfo) → look.has_item_by j (Some x) ≡ false → named x.items j ≡ None
      no-entry j x e = by-entry (named x.items j) refl
        where
          by-entry : (o : Option ℕ) → named x.items j ≡ o → o ≡ None
          by-entry None at = refl
          by-entry (Some i) at = let w : true ≡ false = sym (ap is_some at) ∙ e in absurd (cc w)

      none-member : (j : ℕ) (b : ClassId) → look.has_item_by j (d.class_at (source_of s) b) ≡ false
          → look.member_by j (d.class_at (source_of s) b) ≡ None
      none-member j b e = by-class (d.class_at (source_of s) b) refl
        where
          by-class : (o : Option ClassInfo) → d.class_at (source_of s) b ≡ o
              → look.member_by j (d.class_at (source_of s) b) ≡ None
          by-class None at = ap (look.member_by j) at
          by-class (Some info) at =
              let q =
              found.class-of s.before s.names (weave s) (ClassFacts s) (site s) (woven_of s) s.ds f.found refl b
              info at in
              let x = (d.class_items q.1.x q.0).info in
              let same : d.class_at (source_of s) b ≡ Some x = q.1.source_is in
              ap (look.member_by j) same
              ∙ (tables-fit q.0.items (d.class_begun q.1.x q.0) (d.default_access q.0.word) 0 q.1.x.numbered
              (λ i g. (refl, refl)) j (no-entry j x (sym (ap (look.has_item_by j) same) ∙ e))).0

      one : (m : Member) (e : MemberInfo) → named (before_info s f class k c).members m.name.item.0 ≡ Some e
          → Every (λ (b : ClassId). look.has_item_by m.name.item.0 (d.class_at (source_of s) b) ≡ false)
          (above s f class k c) → Own s m.name.item.0 → IsNumberMember m.name.item.0
      one m e at none own =
          let find = λ (b : ClassId). look.member_by m.name.item.0 (d.class_at (source_of s) b) in
          let here : look.member_by m.name.item.0 (d.class_at (source_of s) (me s f class k c)) ≡ Some e =
          ap (look.member_by m.name.item.0) c.source_is ∙ at in
          let nowhere =
          every-by (λ (b : ClassId). look.has_item_by m.name.item.0 (d.class_at (source_of s) b) ≡ false)
          (λ (b : ClassId). find b ≡ None) (λ b is. none-member m.name.item.0 b is) (above s f class k c) none in
          let number = number-thing (woven_of s) e.type_name (entries m.name.item.0 e at) in
          record {
            entry = e;
            is = member-same (Own s) (source_of s) (woven_of s) f.wide m.name.item.0 own (me s f class k c)
                ∙ (ap (look.topmost find None)
                (lineage-is (source_of s) f.built (me s f class k c) (before_info s f class k c) c.source_is)
                ∙ topmost-first find (me s f class k c) e (above s f class k c) here nowhere);
            kind = number.0;
            number = number.1;
          }

      by : (xs : List Member) → Every
          (λ (m : Member). (e : MemberInfo) × (named (before_info s f class k c).members m.name.item.0 ≡ Some e)) xs
          → Every (λ (m : Member). Every
          (λ (b : ClassId). look.has_item_by m.name.item.0 (d.class_at (source_of s) b) ≡ false)
          (above s f class k c)) xs
          → Every (λ (m : Member). Own s m.name.item.0) xs → Every (λ (m : Member). IsNumberMember m.name.item.0) xs
      by [] entries none own = tt
      by (m ∷ xs) entries none own = (one m entries.0.0 entries.0.1 none.0 own.0, by xs entries.1 none.1 own.1)

  -- ---- what its part adds

  module _ (some : is_some (g.part_of s.guards k) ≡ true) where
    abbrev pub keys : List Key
    keys = keys_of s.names (guard_in s k) k.name ms

    known : Every (IsKnownKey s.names) keys
    known = keys-known s k c.also some

    added-by : (kind : Option GuardKind) (xs : List Member) → is_some (g.part_with k.name kind xs) ≡ true
        → z.added s.names k (g.part_with k.name kind xs) ≡ z.opening k.at shown
        ++ items_of s.names (unwrap_or kind guard.Copies) k.name xs
    added-by None xs is = absurd (cc is)
    added-by (Some kind) [] is = absurd (cc is)
    added-by (Some kind) (m ∷ xs) is = ap (λ is. z.opening k.at shown ++ is) (items-are s.names kind k.name (m ∷ xs))

    pub added-is : added_to s k ≡ z.opening k.at shown ++ items_of s.names (guard_in s k) k.name ms
    added-is = added-by (kind_of s.guards k.name.item) ms some

    -- behind the class's own items
    abbrev midway : ClassInfo
    midway = behind begun (d.default_access k.word) 0 c.y.numbered wrapped

    midway-absent : Every (IsAbsent s.names midway) keys
    midway-absent =
        every-by (IsKnownKey s.names) (IsAbsent s.names midway)
        (λ x is. kept (name_of s.names x).0 wrapped
        (own-avoid s (name_of s.names x).0 (key-foreign s f x is) (parts_of s k) k.items
        (own-back (Own s) (n.names_in_base_of k.base) _ c.also.own.1)) begun (d.default_access k.word) 0
        c.y.numbered) keys known

    new : AreNew midway (z.opening k.at shown ++ items_of s.names (guard_in s k) k.name ms)
    new =
        opening-new midway k.at shown (items_of s.names (guard_in s k) k.name ms)
        (are-new s.names f.distinct midway (items_of s.names (guard_in s k) k.name ms) keys
        (all-keyed s.names k.name (guard_in s k) ms) known
        (keys-apart s.names k.name (guard_in s k) ms (differ s f class k c)) midway-absent)

    abbrev pub count : ℕ
    count = (seen_after classes.none_seen k.items).index

    pub stands : Stand (after_info s f class k c) access.Public (opened shown count)
        (items_of s.names (guard_in s k) k.name ms)
    stands =
        let access_is = shown-is s.names (parts_of s k) k.items begun (d.default_access k.word) 0 c.y.numbered in
        let place_is =
        count-is s.names (parts_of s k) k.items begun (d.default_access k.word) 0 c.y.numbered classes.none_seen
        refl in
        let others = z.opening k.at shown ++ items_of s.names (guard_in s k) k.name ms in
        let a = shown_behind begun (d.default_access k.word) 0 c.y.numbered wrapped in
        let j = count_behind begun (d.default_access k.word) 0 c.y.numbered wrapped in
        let i = number_behind begun (d.default_access k.word) 0 c.y.numbered wrapped in
        let whole = behind-both wrapped others begun (d.default_access k.word) 0 c.y.numbered in
        let info_is : after_info s f class k c ≡ behind midway a j i others =
        ap (λ is. behind begun (d.default_access k.word) 0 c.y.numbered (wrapped ++ is)) added-is ∙ whole in
        opening-stands (after_info s f class k c) k.at shown count (items_of s.names (guard_in s k) k.name ms)
        (subst (λ (u : ClassInfo). Stand u shown count others) (sym info_is)
        (turned (behind midway a j i others) a shown j count others access_is place_is
        (stand others midway a j i new)))

    -- ---- they are looked up

    no-member : (x : Key) → Every (λ (b : ClassId). (info : ClassInfo) → d.class_at (woven_of s) b ≡ Some info
        → IsAbsent s.names info x) (above s f class k c)
        → Every (λ (b : ClassId). look.member_by (name_of s.names x).0 (d.class_at (woven_of s) b) ≡ None)
        (above s f class k c)
    no-member x none =
        every-by (λ (b : ClassId). (info : ClassInfo) → d.class_at (woven_of s) b ≡ Some info
        → IsAbsent s.names info x)
        (λ (b : ClassId). look.member_by (name_of s.names x).0 (d.class_at (woven_of s) b) ≡ None)
        (λ b absent. by b (d.class_at (woven_of s) b) refl absent) (above s f class k c) none
      where
        by : (b : ClassId) (o : Option ClassInfo) → d.class_at (woven_of s) b ≡ o
            → ((info : ClassInfo) → d.class_at (woven_of s) b ≡ Some info → IsAbsent s.names info x)
            → look.member_by (name_of s.names x).0 (d.class_at (woven_of s) b) ≡ None
        by b None at absent = ap (look.member_by (name_of s.names x).0) at
        by b (Some info) at absent = ap (look.member_by (name_of s.names x).0) at ∙ (absent info at).1

    abbrev pub IsNowhere : Key → Type 0
    IsNowhere x =
        Every (λ (b : ClassId). (info : ClassInfo) → d.class_at (woven_of s) b ≡ Some info → IsAbsent s.names info x)
        (above s f class k c)

    pub nowhere : Every IsNowhere keys
    nowhere = keys-absent s f class k c some

    -- a member that the part adds
    found-member : (x : Key) → IsNowhere x → (e : MemberInfo)
        → named (after_info s f class k c).members (name_of s.names x).0 ≡ Some e
        → look.member_named (woven_of s) (me s f class k c) (name_of s.names x).0 ≡ Some (me s f class k c, e)
    found-member x none e at =
        let find = λ (b : ClassId). look.member_by (name_of s.names x).0 (d.class_at (woven_of s) b) in
        ap (look.topmost find None) (lineage s f class k c)
        ∙ topmost-first find (me s f class k c) e (above s f class k c)
        (ap (look.member_by (name_of s.names x).0) c.woven_is ∙ at) (no-member x none)

    abbrev entry_of : NumKind → MemberInfo
    entry_of kind = record { type_name = type_name.Num kind; access = access.Public }

    number-member : (x : Key) (kind : NumKind) → IsNowhere x
        → named (after_info s f class k c).members (name_of s.names x).0 ≡ Some (entry_of kind)
        → IsNumberMember (name_of s.names x).0
    number-member x kind none at =
        record { entry = entry_of kind; is = found-member x none (entry_of kind) at; kind = kind; number = refl }

    abbrev pub extras : List Member
    extras = extra_members s.names (guard_in s k) k.name ms

    abbrev pub extras-stand : Every (HasMember (after_info s f class k c) access.Public) extras
        × ((j : ℕ) × Stand (after_info s f class k c) access.Public j (six_items s.names (guard_in s k) k.name ms))
    extras-stand =
        members-stand (after_info s f class k c) access.Public (opened shown count) extras
        (six_items s.names (guard_in s k) k.name ms) stands

    extra-found : (x : Key) (m : Member) → m.name.item.0 ≡ (name_of s.names x).0 → IsNowhere x
        → HasMember (after_info s f class k c) access.Public m → IsNumMember m → IsNumberMember m.name.item.0
    extra-found x m same none has number =
        subst IsNumberMember (sym same)
        (number-member x number.0 none
        (ap (named (after_info s f class k c).members) (sym same)
        ∙ (has ∙ ap (λ (u : TypeName). Some (record { type_name = u; access = access.Public })) number.1)))

    extras-by : (xs : List Member) (qs : List Key) → Keyed s.names (map tree.member xs) qs → Every IsNowhere qs
        → Every (HasMember (after_info s f class k c) access.Public) xs → Every IsNumMember xs
        → Every (λ (m : Member). IsNumberMember m.name.item.0) xs
    extras-by [] qs keyed none has numbers = tt
    extras-by (m ∷ xs) [] keyed none has numbers = absurd keyed
    extras-by (m ∷ xs) (q ∷ qs) keyed none has numbers =
        (extra-found q m keyed.0 none.0 has.0 numbers.0, extras-by xs qs keyed.1 none.1 has.1 numbers.1)

    pub extras-found : Every (λ (m : Member). IsNumberMember m.name.item.0) extras
    extras-found =
        extras-by extras (extra_keys s.names (guard_in s k) k.name ms) (extras-keyed s.names k.name (guard_in s k) ms)
        (front-of IsNowhere (extra_keys s.names (guard_in s k) k.name ms) _ nowhere) extras-stand.0
        (extra-numbers s.names (guard_in s k) k.name ms)

    pub six-nowhere : Every IsNowhere (six_keys s.names k.name)
    six-nowhere = back-of IsNowhere (extra_keys s.names (guard_in s k) k.name ms) _ nowhere

    pub counter-found : IsNumberMember (code.counter s.names k.name.item).0
    counter-found =
        let same = ap (λ (x : NameId). x.0) (t.counter-is s.names k.name.item) in
        subst IsNumberMember (sym same)
        (number-member (record { tag = t.counter; id = k.name.item }) num.U32 six-nowhere.0
        (ap (named (after_info s f class k c).members) (sym same) ∙ extras-stand.1.1.0.1))

    pub lock-found : look.member_named (woven_of s) (me s f class k c) (code.mutex s.names k.name.item).0 ≡ Some
        (me s f class k c, record { type_name = type_name.Mutex; access = access.Public })
    lock-found =
        let same = ap (λ (x : NameId). x.0) (t.lock-is s.names k.name.item) in
        ap (look.member_named (woven_of s) (me s f class k c)) same
        ∙ found-member (record { tag = t.lock; id = k.name.item }) six-nowhere.1.0
        (record { type_name = type_name.Mutex; access = access.Public })
        (ap (named (after_info s f class k c).members) (sym same) ∙ extras-stand.1.1.1.0.1)
