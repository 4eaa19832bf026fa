-- The items that a part adds to a class, by the tags and the names that theirs are made of.
use Rattle.std.proofs.Common.{◌≡◌, ◌≢◌, refl, sym, ap, ◌∙◌, subst, ℕ, zero, suc, ◌+◌, ◌^◌, ◌<◌, ◌≤◌, arith, List, [], ◌∷◌, ◌++◌, map, length, Some, None, codes}
use Rattle.std.proofs.lemmas.List.{length-map}
use Rattle.std.specs.List.{range_with_len}
use Rattle.agxx_base.specs.declared.ids.NameId.{NameId}
use Rattle.agxx_base.specs.Names.{IsDistinct}
use Rattle.cxx_tree.specs.declared.node.Placed.{Placed}
use Rattle.cxx_tree.specs.declared.program.Member.{Member}
use Rattle.cxx_tree.specs.Limits.{Every}
use Rattle.cxx_tree.specs.ProgramTree as tree
use Rattle.cxx_tree.specs.ProgramTree.{ItemTree}
use Rattle.cxx_names.specs.declared.declarations.ClassInfo.{ClassInfo}
use Rattle.cxx_names.specs.Tables.{named}
use Rattle.cxx_make.specs.Generated.{text_of}
use Rattle.guards.specs.declared.guard.GuardKind.{GuardKind}
use Rattle.guards.specs.declared.guard.GuardKind.TheVariants as guard
use Rattle.codec.specs.declared.part.Part.{Part}
use Rattle.codec.specs.Copies as copies
use Rattle.hamming_gen.specs.Positions.{check_words}
use Rattle.hamming_gen.specs.HammingNames as hamming
use Rattle.hamming_gen.specs.HammingTrees as h
use Rattle.entry_count.specs.PartCode as code
use Rattle.entry_count.specs.PartCode.{beginning}
use Rattle.protect.specs.Protected as z
use Rattle.protect.specs.GeneratedNames.{own_texts, texts_of_part}
use Rattle.protect_laws.proofs.CheckWords.{few-checks}
use Rattle.protect_laws.proofs.Known.{every-by}
use Rattle.protect_laws.specs.Strip.{AreKnown}
use Rattle.woven_rules.proofs.Standing.{Avoids, AreNew}
use Rattle.woven_rules.proofs.Members.{DifferFrom, AllDiffer}
use Rattle.woven_rules.proofs.Tags as t
use Rattle.woven_rules.proofs.Tags.{Tag, IsSmall, IsExtra, IsCheck, tagged, IsKnown, tagged-back, same-id, counter-is, lock-is, repair-is, renew-is, enter-is, leave-is}

pub record Key : Type 0 where
  pub tag : Tag
  pub id : NameId

abbrev pub key : Tag → NameId → Key
key a i = record { tag = a; id = i }

-- two keys are not the same
abbrev pub AreApart : Key → Key → Type 0
AreApart k j = k.tag ≡ j.tag → k.id.0 ≡ j.id.0 → ⊥

abbrev pub ApartKeys : List Key → Type 0
ApartKeys [] = Unit {0}
ApartKeys (k ∷ ks) = Every (AreApart k) ks × ApartKeys ks

pub every-both : {A : Type 0} (P : A → Type 0) (xs ys : List A) → Every P xs → Every P ys → Every P (xs ++ ys)
every-both P [] ys first rest = rest
every-both P (x ∷ xs) ys first rest = (first.0, every-both P xs ys first.1 rest)

pub every-of : {A B : Type 0} (P : B → Type 0) (of : A → B) → ((x : A) → P (of x)) → (xs : List A)
    → Every P (map of xs)
every-of P of one [] = tt
every-of P of one (x ∷ xs) = (one x, every-of P of one xs)

module _ (names : List (List ℕ)) where
  abbrev pub name_of : Key → NameId
  name_of k = tagged names k.tag k.id

  abbrev pub IsKnownKey : Key → Type 0
  IsKnownKey k = IsKnown names k.tag k.id × ((k.id.0 < length names) × IsSmall k.tag)

  pub other-names : IsDistinct names → (k j : Key) → IsKnownKey k → IsKnownKey j → AreApart k j
      → (name_of k).0 ≢ (name_of j).0
  other-names distinct k j known also apart e =
      let both = tagged-back names k.tag j.tag k.id j.id known.1.1 also.1.1 known.0 also.0 e in
      apart both.0 (same-id names distinct k.id j.id known.1.0 also.1.0 both.1)

  -- an item has the name of a key
  abbrev pub HasKey : ItemTree → Key → Type 0
  HasKey (tree.label at a) k = ⊥
  HasKey (tree.member m) k = m.name.item.0 ≡ (name_of k).0
  HasKey (tree.function f) k = f.name.item.0 ≡ (name_of k).0
  HasKey (tree.ctor c) k = ⊥
  HasKey (tree.dtor d) k = ⊥

  abbrev pub Keyed : List ItemTree → List Key → Type 0
  Keyed [] [] = Unit {0}
  Keyed [] (k ∷ ks) = ⊥
  Keyed (i ∷ is) [] = ⊥
  Keyed (i ∷ is) (k ∷ ks) = HasKey i k × Keyed is ks

  pub keyed-both : (is : List ItemTree) (ks : List Key) (js : List ItemTree) (ls : List Key) → Keyed is ks
      → Keyed js ls → Keyed (is ++ js) (ks ++ ls)
  keyed-both [] [] js ls first rest = rest
  keyed-both [] (k ∷ ks) js ls first rest = absurd first
  keyed-both (i ∷ is) [] js ls first rest = absurd first
  keyed-both (i ∷ is) (k ∷ ks) js ls first rest = (first.0, keyed-both is ks js ls first.1 rest)

  avoids-one : (g : ℕ) (i : ItemTree) (k : Key) → HasKey i k → g ≢ (name_of k).0 → Avoids g i
  avoids-one g (tree.label at a) k has other = tt
  avoids-one g (tree.member m) k has other = λ e. other (e ∙ has)
  avoids-one g (tree.function f) k has other = λ e. other (e ∙ has)
  avoids-one g (tree.ctor c) k has other = tt
  avoids-one g (tree.dtor d) k has other = tt

  pub avoids-each : (g : ℕ) (is : List ItemTree) (ks : List Key) → Keyed is ks → Every (λ k. g ≢ (name_of k).0) ks
      → Every (Avoids g) is
  avoids-each g [] [] keyed other = tt
  avoids-each g [] (k ∷ ks) keyed other = absurd keyed
  avoids-each g (i ∷ is) [] keyed other = absurd keyed
  avoids-each g (i ∷ is) (k ∷ ks) keyed other =
      (avoids-one g i k keyed.0 other.0, avoids-each g is ks keyed.1 other.1)

  -- a name stands for nothing in a class
  abbrev pub IsAbsent : ClassInfo → Key → Type 0
  IsAbsent y k =
      (named y.items (name_of k).0 ≡ None) × (named y.members (name_of k).0 ≡ None)
      × (named y.methods (name_of k).0 ≡ None)

  module _ (distinct : IsDistinct names) where
    pub apart-each : (k : Key) → IsKnownKey k → (ks : List Key) → Every IsKnownKey ks → Every (AreApart k) ks
        → Every (λ j. (name_of k).0 ≢ (name_of j).0) ks
    apart-each k known [] all apart = tt
    apart-each k known (j ∷ ks) all apart =
        (other-names distinct k j known all.0 apart.0, apart-each k known ks all.1 apart.1)

    pub are-new : (y : ClassInfo) (is : List ItemTree) (ks : List Key) → Keyed is ks → Every IsKnownKey ks
        → ApartKeys ks → Every (IsAbsent y) ks → AreNew y is
    are-new y [] [] keyed known apart absent = tt
    are-new y [] (k ∷ ks) keyed known apart absent = tt
    are-new y (i ∷ is) [] keyed known apart absent = absurd keyed
    are-new y (tree.label at a ∷ is) (k ∷ ks) keyed known apart absent = absurd keyed.0
    are-new y (tree.member m ∷ is) (k ∷ ks) keyed known apart absent =
        let others = apart-each k known.0 ks known.1 apart.0 in (
          (
            ap (named y.items) keyed.0 ∙ absent.0.0,
            ap (named y.members) keyed.0 ∙ absent.0.1,
            subst (λ g. Every (Avoids g) is) (sym keyed.0) (avoids-each (name_of k).0 is ks keyed.1 others),
          ),
          are-new y is ks keyed.1 known.1 apart.1 absent.1,
        )
    are-new y (tree.function f ∷ is) (k ∷ ks) keyed known apart absent =
        let others = apart-each k known.0 ks known.1 apart.0 in (
          (
            ap (named y.items) keyed.0 ∙ absent.0.0,
            ap (named y.methods) keyed.0 ∙ absent.0.2,
            subst (λ g. Every (Avoids g) is) (sym keyed.0) (avoids-each (name_of k).0 is ks keyed.1 others),
          ),
          are-new y is ks keyed.1 known.1 apart.1 absent.1,
        )
    are-new y (tree.ctor c ∷ is) (k ∷ ks) keyed known apart absent = absurd keyed.0
    are-new y (tree.dtor d ∷ is) (k ∷ ks) keyed known apart absent = absurd keyed.0

  -- ---- the items of a part

  abbrev pub part : Placed NameId → List Member → Part
  part class ms = record { class = class; members = ms }

  third : (xs : List Member) (is : List ItemTree) (a b : Member)
      → map tree.member (xs ++ (a ∷ b ∷ [])) ++ is ≡ map tree.member xs ++ (tree.member a ∷ tree.member b ∷ is)
  third [] is a b = refl
  third (x ∷ xs) is a b = ap (λ l. tree.member x ∷ l) (third xs is a b)

  module _ (kind : GuardKind) (class : Placed NameId) where
    -- the members that a code adds
    abbrev pub extra_members : List Member → List Member
    extra_members ms = (z.code_of kind).members names (part class ms)

    abbrev pub six_items : List Member → List ItemTree
    six_items ms =
        tree.member (code.counter_member names class.at class.item)
        ∷ tree.member (code.lock_member names class.at class.item)
        ∷ map tree.function (code.part_functions (z.code_of kind) names (part class ms))

    abbrev pub items_of : List Member → List ItemTree
    items_of ms = map tree.member (extra_members ms) ++ six_items ms

    pub items-are : (ms : List Member) → z.part_items (z.code_of kind) names (part class ms) ≡ items_of ms
    unfolding z.part_items
    items-are ms =
        third (extra_members ms) (map tree.function (code.part_functions (z.code_of kind) names (part class ms)))
        (code.counter_member names class.at class.item) (code.lock_member names class.at class.item)

  map-both : (xs ys : List Member) → map tree.member (xs ++ ys) ≡ map tree.member xs ++ map tree.member ys
  map-both [] ys = refl
  map-both (x ∷ xs) ys = ap (λ l. tree.member x ∷ l) (map-both xs ys)

  -- ---- their keys

  module _ (class : Placed NameId) where
    abbrev pub six_keys : List Key
    six_keys =
        key t.counter class.item ∷ key t.lock class.item ∷ key t.repair class.item ∷ key t.renew class.item
        ∷ key t.enter class.item ∷ key t.leave class.item ∷ []

    abbrev pub first_keys : List Member → List Key
    first_keys ms = map (λ (m : Member). key t.first m.name.item) ms

    abbrev pub second_keys : List Member → List Key
    second_keys ms = map (λ (m : Member). key t.second m.name.item) ms

    abbrev pub check_keys : List ℕ → List Key
    check_keys js = map (λ j. key (t.check j) class.item) js

  abbrev pub extra_keys : GuardKind → Placed NameId → List Member → List Key
  extra_keys guard.Copies class ms = first_keys class ms ++ second_keys class ms
  extra_keys guard.Hamming class ms =
      check_keys class (range_with_len 0 (check_words (length ms))) ++ key t.parity class.item ∷ []

  abbrev pub keys_of : GuardKind → Placed NameId → List Member → List Key
  keys_of kind class ms = extra_keys kind class ms ++ six_keys class

  module _ (class : Placed NameId) where
    firsts-keyed : (ms : List Member)
        → Keyed (map tree.member (map (copies.first_member names class.at) ms)) (first_keys class ms)
    firsts-keyed [] = tt
    firsts-keyed (m ∷ ms) = (refl, firsts-keyed ms)

    seconds-keyed : (ms : List Member)
        → Keyed (map tree.member (map (copies.second_member names class.at) ms)) (second_keys class ms)
    seconds-keyed [] = tt
    seconds-keyed (m ∷ ms) = (refl, seconds-keyed ms)

    abbrev check_members : List ℕ → List Member
    check_members js = map (λ j. h.word_member class.at (hamming.check_name names class.item j)) js

    checks-keyed : (js : List ℕ) → Keyed (map tree.member (check_members js)) (check_keys class js)
    checks-keyed [] = tt
    checks-keyed (j ∷ js) = (refl, checks-keyed js)

    pub extras-keyed : (kind : GuardKind) (ms : List Member)
        → Keyed (map tree.member (extra_members kind class ms)) (extra_keys kind class ms)
    extras-keyed guard.Copies ms =
        let one = map (copies.first_member names class.at) ms in
        let two = map (copies.second_member names class.at) ms in
        subst (λ is. Keyed is (first_keys class ms ++ second_keys class ms)) (sym (map-both one two))
        (keyed-both (map tree.member one) (first_keys class ms) (map tree.member two) (second_keys class ms)
        (firsts-keyed ms) (seconds-keyed ms))
    extras-keyed guard.Hamming ms =
        let js = range_with_len 0 (check_words (length ms)) in
        let last = h.word_member class.at (hamming.parity_name names class.item) ∷ [] in
        subst (λ is. Keyed is (check_keys class js ++ key t.parity class.item ∷ []))
        (sym (map-both (check_members js) last))
        (keyed-both (map tree.member (check_members js)) (check_keys class js) (map tree.member last)
        (key t.parity class.item ∷ []) (checks-keyed js) (refl, tt))

    six-keyed : (kind : GuardKind) (ms : List Member) → Keyed (six_items kind class ms) (six_keys class)
    six-keyed kind ms =
        let of = λ (x : NameId). x.0 in (
          ap of (counter-is names class.item),
          (
            ap of (lock-is names class.item),
            (
              ap of (repair-is names class.item),
              (
                ap of (renew-is names class.item),
                (ap of (enter-is names class.item), (ap of (leave-is names class.item), tt)),
              ),
            ),
          ),
        )

    pub all-keyed : (kind : GuardKind) (ms : List Member) → Keyed (items_of kind class ms) (keys_of kind class ms)
    all-keyed kind ms =
        keyed-both (map tree.member (extra_members kind class ms)) (extra_keys kind class ms)
        (six_items kind class ms) (six_keys class) (extras-keyed kind ms) (six-keyed kind ms)

  -- ---- they are apart

  apart-both : (ks js : List Key) → ApartKeys ks → ApartKeys js → Every (λ k. Every (AreApart k) js) ks
      → ApartKeys (ks ++ js)
  apart-both [] js one two cross = two
  apart-both (k ∷ ks) js one two cross =
      (every-both (AreApart k) ks js one.0 cross.0, apart-both ks js one.1 two cross.1)

  module _ (class : Placed NameId) where
    six-apart : ApartKeys (six_keys class)
    six-apart = (
      (
        λ e i. absurd (cc e),
        (
          λ e i. absurd (cc e),
          (λ e i. absurd (cc e), (λ e i. absurd (cc e), (λ e i. absurd (cc e), tt))),
        ),
      ),
      (
        (λ e i. absurd (cc e), (λ e i. absurd (cc e), (λ e i. absurd (cc e), (λ e i. absurd (cc e), tt)))),
        (
          (λ e i. absurd (cc e), (λ e i. absurd (cc e), (λ e i. absurd (cc e), tt))),
          ((λ e i. absurd (cc e), (λ e i. absurd (cc e), tt)), ((λ e i. absurd (cc e), tt), (tt, tt))),
        ),
      ),
    )

    extra-six : (k : Key) → IsExtra k.tag → Every (AreApart k) (six_keys class)
    extra-six k is = (
      λ e j. subst IsExtra e is,
      (
        λ e j. subst IsExtra e is,
        (
          λ e j. subst IsExtra e is,
          (
            λ e j. subst IsExtra e is,
            (λ e j. subst IsExtra e is, (λ e j. subst IsExtra e is, tt)),
          ),
        ),
      ),
    )

    firsts-extra : (ms : List Member) → Every (λ (k : Key). IsExtra k.tag) (first_keys class ms)
    firsts-extra ms = every-of (λ (k : Key). IsExtra k.tag) (λ (m : Member). key t.first m.name.item) (λ m. tt) ms

    seconds-extra : (ms : List Member) → Every (λ (k : Key). IsExtra k.tag) (second_keys class ms)
    seconds-extra ms = every-of (λ (k : Key). IsExtra k.tag) (λ (m : Member). key t.second m.name.item) (λ m. tt) ms

    extras-extra : (kind : GuardKind) (ms : List Member)
        → Every (λ (k : Key). IsExtra k.tag) (extra_keys kind class ms)
    extras-extra guard.Copies ms =
        every-both (λ (k : Key). IsExtra k.tag) (first_keys class ms) (second_keys class ms) (firsts-extra ms)
        (seconds-extra ms)
    extras-extra guard.Hamming ms =
        let js = range_with_len 0 (check_words (length ms)) in
        every-both (λ (k : Key). IsExtra k.tag) (check_keys class js) (key t.parity class.item ∷ [])
        (every-of (λ (k : Key). IsExtra k.tag) (λ (j : ℕ). key (t.check j) class.item) (λ j. tt) js) (tt, tt)

    checks-check : (ms : List Member) → Every (λ (k : Key). IsCheck k.tag) (extra_keys guard.Hamming class ms)
    checks-check ms =
        let js = range_with_len 0 (check_words (length ms)) in
        every-both (λ (k : Key). IsCheck k.tag) (check_keys class js) (key t.parity class.item ∷ [])
        (every-of (λ (k : Key). IsCheck k.tag) (λ (j : ℕ). key (t.check j) class.item) (λ j. tt) js) (tt, tt)

    first-second : (i : NameId) (ms : List Member) → Every (AreApart (key t.first i)) (second_keys class ms)
    first-second i ms =
        every-of (AreApart (key t.first i)) (λ (m : Member). key t.second m.name.item) (λ m e j. absurd (cc e)) ms

    second-first : (i : NameId) (ms : List Member) → Every (AreApart (key t.second i)) (first_keys class ms)
    second-first i ms =
        every-of (AreApart (key t.second i)) (λ (m : Member). key t.first m.name.item) (λ m e j. absurd (cc e)) ms

    first-first : (i : NameId) (ms : List Member) → DifferFrom i.0 ms
        → Every (AreApart (key t.first i)) (first_keys class ms)
    first-first i [] differ = tt
    first-first i (m ∷ ms) differ = (λ e same. differ.0 same, first-first i ms differ.1)

    second-second : (i : NameId) (ms : List Member) → DifferFrom i.0 ms
        → Every (AreApart (key t.second i)) (second_keys class ms)
    second-second i [] differ = tt
    second-second i (m ∷ ms) differ = (λ e same. differ.0 same, second-second i ms differ.1)

    firsts-apart : (ms : List Member) → AllDiffer ms → ApartKeys (first_keys class ms)
    firsts-apart [] differ = tt
    firsts-apart (m ∷ ms) differ = (first-first m.name.item ms differ.0, firsts-apart ms differ.1)

    seconds-apart : (ms : List Member) → AllDiffer ms → ApartKeys (second_keys class ms)
    seconds-apart [] differ = tt
    seconds-apart (m ∷ ms) differ = (second-second m.name.item ms differ.0, seconds-apart ms differ.1)

    number-back : (i j : ℕ) → t.check i ≡ t.check j → i ≡ j
    number-back i j e = ap number e
      where
        number : Tag → ℕ
        number (t.check n) = n
        number _ = 0

    check-apart : (i j n : ℕ) → i < j
        → Every (AreApart (key (t.check i) class.item)) (check_keys class (range_with_len j n))
    check-apart i j zero low = tt
    check-apart i j (suc n) low =
        ((λ e same. (let is = number-back i j e in absurd (omega arith))), check-apart i (j + 1) n (omega arith))

    checks-apart : (i n : ℕ) → ApartKeys (check_keys class (range_with_len i n))
    checks-apart i zero = tt
    checks-apart i (suc n) = (check-apart i (i + 1) n (omega arith), checks-apart (i + 1) n)

    extras-apart : (kind : GuardKind) (ms : List Member) → AllDiffer ms → ApartKeys (extra_keys kind class ms)
    extras-apart guard.Copies ms differ =
        apart-both (first_keys class ms) (second_keys class ms) (firsts-apart ms differ) (seconds-apart ms differ)
        (every-of (λ k. Every (AreApart k) (second_keys class ms)) (λ (m : Member). key t.first m.name.item)
        (λ m. first-second m.name.item ms) ms)
    extras-apart guard.Hamming ms differ =
        let js = range_with_len 0 (check_words (length ms)) in
        apart-both (check_keys class js) (key t.parity class.item ∷ []) (checks-apart 0 (check_words (length ms)))
        (tt, tt)
        (every-of (λ k. Every (AreApart k) (key t.parity class.item ∷ [])) (λ (j : ℕ). key (t.check j) class.item)
        (λ j. ((λ e same. absurd (cc e)), tt)) js)

    pub keys-apart : (kind : GuardKind) (ms : List Member) → AllDiffer ms → ApartKeys (keys_of kind class ms)
    keys-apart kind ms differ =
        apart-both (extra_keys kind class ms) (six_keys class) (extras-apart kind ms differ) six-apart
        (every-by (λ (k : Key). IsExtra k.tag) (λ k. Every (AreApart k) (six_keys class)) extra-six
        (extra_keys kind class ms) (extras-extra kind ms))

  -- ---- keys of parts of two classes

  module _ (class other : Placed NameId) (apart : class.item.0 ≢ other.item.0) where
    six-cross : (i : Tag) → Every (AreApart (key i class.item)) (six_keys other)
    six-cross i = (
      (λ e same. apart same),
      (
        (λ e same. apart same),
        ((λ e same. apart same), ((λ e same. apart same), ((λ e same. apart same), ((λ e same. apart same), tt)))),
      ),
    )

    pub one-cross : (kind : GuardKind) (a : Tag) → (IsExtra a → ⊥) → (ms : List Member)
        → Every (AreApart (key a class.item)) (keys_of kind other ms)
    one-cross kind a no_extra ms =
        every-both (AreApart (key a class.item)) (extra_keys kind other ms) (six_keys other)
        (every-by (λ (k : Key). IsExtra k.tag) (AreApart (key a class.item))
        (λ k is e same. no_extra (subst IsExtra (sym e) is)) (extra_keys kind other ms)
        (extras-extra other kind ms)) (six-cross a)

    -- a key of a member, and those that a code adds to the other class
    firsts-cross : (kind : GuardKind) (xs others : List Member)
        → Every (λ (m : Member). DifferFrom m.name.item.0 others) xs
        → Every (λ k. Every (AreApart k) (extra_keys kind other others)) (first_keys class xs)
    firsts-cross kind [] others differ = tt
    firsts-cross guard.Copies (m ∷ xs) others differ = (
      every-both (AreApart (key t.first m.name.item)) (first_keys other others) (second_keys other others)
          (first-first other m.name.item others differ.0) (first-second other m.name.item others),
      firsts-cross guard.Copies xs others differ.1,
    )
    firsts-cross guard.Hamming (m ∷ xs) others differ = (
      every-by (λ (k : Key). IsCheck k.tag) (AreApart (key t.first m.name.item))
          (λ k is e same. subst IsCheck (sym e) is) (extra_keys guard.Hamming other others)
          (checks-check other others),
      firsts-cross guard.Hamming xs others differ.1,
    )

    seconds-cross : (kind : GuardKind) (xs others : List Member)
        → Every (λ (m : Member). DifferFrom m.name.item.0 others) xs
        → Every (λ k. Every (AreApart k) (extra_keys kind other others)) (second_keys class xs)
    seconds-cross kind [] others differ = tt
    seconds-cross guard.Copies (m ∷ xs) others differ = (
      every-both (AreApart (key t.second m.name.item)) (first_keys other others) (second_keys other others)
          (second-first other m.name.item others) (second-second other m.name.item others differ.0),
      seconds-cross guard.Copies xs others differ.1,
    )
    seconds-cross guard.Hamming (m ∷ xs) others differ = (
      every-by (λ (k : Key). IsCheck k.tag) (AreApart (key t.second m.name.item))
          (λ k is e same. subst IsCheck (sym e) is) (extra_keys guard.Hamming other others)
          (checks-check other others),
      seconds-cross guard.Hamming xs others differ.1,
    )

    -- a key of a check word or parity word, and those that a code adds to the other class
    check-cross : (kind : GuardKind) (a : Tag) → IsCheck a → (others : List Member)
        → Every (AreApart (key a class.item)) (extra_keys kind other others)
    check-cross guard.Copies a is others =
        every-both (AreApart (key a class.item)) (first_keys other others) (second_keys other others)
        (every-of (AreApart (key a class.item)) (λ (m : Member). key t.first m.name.item)
        (λ m e same. subst IsCheck e is) others)
        (every-of (AreApart (key a class.item)) (λ (m : Member). key t.second m.name.item)
        (λ m e same. subst IsCheck e is) others)
    check-cross guard.Hamming a is others =
        let js = range_with_len 0 (check_words (length others)) in
        every-both (AreApart (key a class.item)) (check_keys other js) (key t.parity other.item ∷ [])
        (every-of (AreApart (key a class.item)) (λ (j : ℕ). key (t.check j) other.item) (λ j e same. apart same) js)
        ((λ e same. apart same), tt)

    extras-cross : (kind also : GuardKind) (ms others : List Member)
        → Every (λ (m : Member). DifferFrom m.name.item.0 others) ms
        → Every (λ k. Every (AreApart k) (extra_keys also other others)) (extra_keys kind class ms)
    extras-cross guard.Copies also ms others differ =
        every-both (λ k. Every (AreApart k) (extra_keys also other others)) (first_keys class ms)
        (second_keys class ms) (firsts-cross also ms others differ) (seconds-cross also ms others differ)
    extras-cross guard.Hamming also ms others differ =
        let js = range_with_len 0 (check_words (length ms)) in
        every-both (λ k. Every (AreApart k) (extra_keys also other others)) (check_keys class js)
        (key t.parity class.item ∷ [])
        (every-of (λ k. Every (AreApart k) (extra_keys also other others)) (λ (j : ℕ). key (t.check j) class.item)
        (λ j. check-cross also (t.check j) tt others) js) (check-cross also t.parity tt others, tt)

    extra-cross : (also : GuardKind) (others : List Member) (ks : List Key) → Every (λ (k : Key). IsExtra k.tag) ks
        → Every (λ k. Every (AreApart k) (extra_keys also other others)) ks
        → Every (λ k. Every (AreApart k) (keys_of also other others)) ks
    extra-cross also others [] are cross = tt
    extra-cross also others (k ∷ ks) are cross = (
      every-both (AreApart k) (extra_keys also other others) (six_keys other) cross.0 (extra-six other k are.0),
      extra-cross also others ks are.1 cross.1,
    )

    -- none is that of another class's part, where that has other members
    pub cross : (kind also : GuardKind) (ms others : List Member)
        → Every (λ (m : Member). DifferFrom m.name.item.0 others) ms
        → Every (λ k. Every (AreApart k) (keys_of also other others)) (keys_of kind class ms)
    cross kind also ms others differ =
        every-both (λ k. Every (AreApart k) (keys_of also other others)) (extra_keys kind class ms) (six_keys class)
        (extra-cross also others (extra_keys kind class ms) (extras-extra class kind ms)
        (extras-cross kind also ms others differ)) (
          one-cross also t.counter (λ e. e) others,
          (
            one-cross also t.lock (λ e. e) others,
            (
              one-cross also t.repair (λ e. e) others,
              (
                one-cross also t.renew (λ e. e) others,
                (one-cross also t.enter (λ e. e) others, (one-cross also t.leave (λ e. e) others, tt)),
              ),
            ),
          ),
        )

  module _ (class : Placed NameId) where
    checks-small : (i n : ℕ) → i + n < 2 ^ 64
        → Every (λ (k : Key). IsSmall k.tag) (check_keys class (range_with_len i n))
    checks-small i zero low = tt
    checks-small i (suc n) low = (omega arith, checks-small (i + 1) n (omega arith))

    pub keys-small : (kind : GuardKind) (ms : List Member) → length ms ≤ 120
        → Every (λ (k : Key). IsSmall k.tag) (keys_of kind class ms)
    keys-small guard.Copies ms few =
        every-both (λ (k : Key). IsSmall k.tag) (first_keys class ms ++ second_keys class ms) (six_keys class)
        (every-both (λ (k : Key). IsSmall k.tag) (first_keys class ms) (second_keys class ms)
        (every-of (λ (k : Key). IsSmall k.tag) (λ (m : Member). key t.first m.name.item) (λ m. tt) ms)
        (every-of (λ (k : Key). IsSmall k.tag) (λ (m : Member). key t.second m.name.item) (λ m. tt) ms))
        (tt, (tt, (tt, (tt, (tt, (tt, tt))))))
    keys-small guard.Hamming ms few =
        let js = range_with_len 0 (check_words (length ms)) in
        let low = few-checks (length ms) in
        every-both (λ (k : Key). IsSmall k.tag) (check_keys class js ++ key t.parity class.item ∷ []) (six_keys class)
        (every-both (λ (k : Key). IsSmall k.tag) (check_keys class js) (key t.parity class.item ∷ [])
        (checks-small 0 (check_words (length ms)) (omega arith)) (tt, tt)) (tt, (tt, (tt, (tt, (tt, (tt, tt))))))

  -- ---- their texts have numbers

  pub record AllKnown (kind : GuardKind) (class : Placed NameId) (ms : List Member) : Type 0 where
    pub keys : Every (λ k. IsKnown names k.tag k.id) (keys_of kind class ms)
    pub locals : AreKnown names ((z.code_of kind).local_texts (length ms))

  front-known : (xs ys : List (List ℕ)) → AreKnown names (xs ++ ys) → AreKnown names xs
  front-known [] ys all = tt
  front-known (x ∷ xs) ys all = (all.0, front-known xs ys all.1)

  back-known : (xs ys : List (List ℕ)) → AreKnown names (xs ++ ys) → AreKnown names ys
  back-known [] ys all = all
  back-known (x ∷ xs) ys all = back-known xs ys all.1

  module _ (class : Placed NameId) where
    abbrev texts : List Member → List (List ℕ)
    texts ms = map (text_of names) (map (λ (m : Member). m.name.item) ms)

    firsts-known : (ms : List Member) → AreKnown names (map (λ m. codes "__gop_c1_" ++ m) (texts ms))
        → Every (λ k. IsKnown names k.tag k.id) (first_keys class ms)
    firsts-known [] all = tt
    firsts-known (m ∷ ms) all = (all.0, firsts-known ms all.1)

    seconds-known : (ms : List Member) → AreKnown names (map (λ m. codes "__gop_c2_" ++ m) (texts ms))
        → Every (λ k. IsKnown names k.tag k.id) (second_keys class ms)
    seconds-known [] all = tt
    seconds-known (m ∷ ms) all = (all.0, seconds-known ms all.1)

    checks-known : (js : List ℕ) → AreKnown names (map (hamming.check_text (text_of names class.item)) js)
        → Every (λ k. IsKnown names k.tag k.id) (check_keys class js)
    checks-known [] all = tt
    checks-known (j ∷ js) all = (all.0, checks-known js all.1)

    extras-known : (kind : GuardKind) (ms : List Member)
        → AreKnown names ((z.code_of kind).extra_texts (text_of names class.item) (texts ms))
        → Every (λ k. IsKnown names k.tag k.id) (extra_keys kind class ms)
    extras-known guard.Copies ms all =
        let one = map (λ m. codes "__gop_c1_" ++ m) (texts ms) in
        let two = map (λ m. codes "__gop_c2_" ++ m) (texts ms) in
        every-both (λ k. IsKnown names k.tag k.id) (first_keys class ms) (second_keys class ms)
        (firsts-known ms (front-known one two all)) (seconds-known ms (back-known one two all))
    extras-known guard.Hamming ms all =
        let name = text_of names class.item in
        let many : length (texts ms) ≡ length ms =
        length-map (map (λ (m : Member). m.name.item) ms) (text_of names)
        ∙ length-map ms (λ (m : Member). m.name.item) in
        let js = range_with_len 0 (check_words (length ms)) in
        let here : AreKnown names (map (hamming.check_text name) js ++ hamming.parity_text name ∷ []) =
        subst (λ k. AreKnown names (hamming.added_texts name k)) many all in
        every-both (λ k. IsKnown names k.tag k.id) (check_keys class js) (key t.parity class.item ∷ [])
        (checks-known js (front-known (map (hamming.check_text name) js) (hamming.parity_text name ∷ []) here))
        ((back-known (map (hamming.check_text name) js) (hamming.parity_text name ∷ []) here).0, tt)

    pub all-known : (kind : GuardKind) (ms : List Member)
        → AreKnown names (texts_of_part names (Some (kind, part class ms))) → AllKnown kind class ms
    unfolding own_texts beginning
    all-known kind ms all =
        let rest = all.1.1.1.1.1.1 in
        let extra = (z.code_of kind).extra_texts (text_of names class.item) (texts ms) in
        let locals = (z.code_of kind).local_texts (length ms) in
        record {
          keys =
              every-both (λ k. IsKnown names k.tag k.id) (extra_keys kind class ms) (six_keys class)
              (extras-known kind ms (front-known extra locals rest))
              (all.0, (all.1.0, (all.1.1.0, (all.1.1.1.0, (all.1.1.1.1.0, (all.1.1.1.1.1.0, tt))))));
          locals = back-known extra locals rest;
        }
