-- The members of a class that violates no rule: their names differ, stand nowhere above, and they hold numbers.
use Rattle.std.proofs.Common.{◌≡◌, ◌≢◌, refl, sym, ap, ◌∙◌, subst, ℕ, suc, ◌<◌, arith, Bool, true, false, not, List, [], ◌∷◌, Option, Some, None, nat_eq, if◌then◌else◌}
use Rattle.std.specs.List.{flat_map}
use Rattle.std.proofs.lemmas.Option.{none-some, same_Some}
use Rattle.std.proofs.lemmas.Bool.{lt-ltb}
use Rattle.agxx_base.specs.declared.ids.NameId.{NameId}
use Rattle.agxx_base.specs.declared.place.Place.{Place}
use Rattle.cxx_tree.specs.declared.node.Placed.{Placed}
use Rattle.cxx_tree.specs.declared.program.Access.{Access}
use Rattle.cxx_tree.specs.declared.program.Member.{Member}
use Rattle.cxx_tree.specs.declared.program.TypeName.{TypeName}
use Rattle.cxx_tree.specs.declared.program.TypeName.TheVariants as type_name
use Rattle.cxx_tree.specs.Limits.{Every}
use Rattle.cxx_tree.specs.Fits.{IsPlainType, IsNumberType}
use Rattle.cxx_tree.specs.ProgramTree as tree
use Rattle.cxx_tree.specs.ProgramTree.{ItemTree}
use Rattle.cxx_names.specs.declared.declarations.ClassInfo.{ClassInfo}
use Rattle.cxx_names.specs.declared.declarations.MemberInfo.{MemberInfo}
use Rattle.cxx_names.specs.Declarations as d
use Rattle.cxx_names.specs.LookUp as look
use Rattle.cxx_names.specs.Tables.{named, with_name}
use Rattle.cxx_types.specs.declared.classes.ItemsSeen.{ItemsSeen}
use Rattle.cxx_types.specs.Classes as c
use Rattle.cxx_rules.specs.Sites.{Site}
use Rattle.cxx_rules.specs.Forms as form
use Rattle.cxx_rules.specs.ProgramForms as p
use Rattle.cxx_rules.specs.Unless.{unless}
use Rattle.cxx_rules.specs.DeclaredTwice as n2
use Rattle.cxx_rules.specs.NotAllowedHere as n8
use Rattle.protect.specs.GuardedParts.{members_in}
use Rattle.woven_rules.specs.WovenRules.{HasPlainType}
use Rattle.woven_rules.proofs.Tables.{same-number, named-with, named-new, named-other, named-still}
use Rattle.woven_rules.proofs.Right.{Right, Rights, back, holds}
use Rattle.woven_rules.proofs.Standing.{behind, member_behind, function_behind, ctor_behind, dtor_behind}
use Rattle.protect_laws.proofs.Known.{every-by}

abbrev pub members : List ItemTree → List Member
members is = flat_map members_in is

-- ---- what the rules say of members

-- a member's name is not inherited, and its type is a number type
abbrev pub IsGoodMember : Site → ClassInfo → Member → Type 0
IsGoodMember w info m = (n2.is_inherited w info.base m.name ≡ false) × IsNumberType m.type_name.item

neither : (x y : Bool) → not (c.either x y) ≡ true → (x ≡ false) × (y ≡ false)
neither true y e = absurd (cc e)
neither false true e = absurd (cc e)
neither false false e = (refl, refl)

number-type : (at : Place) (name : Placed NameId) (t : TypeName) → IsPlainType t → n8.void_variable at t ≡ None
    → unless (not (c.is_pointer t)) name.at ≡ None → IsNumberType t
number-type at name (type_name.Num k) plain no_void no_pointer = tt
number-type at name type_name.Int plain no_void no_pointer = tt
number-type at name type_name.Unsigned plain no_void no_pointer = tt
number-type at name type_name.Void plain no_void no_pointer = absurd (none-some at (sym no_void))
number-type at name (type_name.Pointer class) plain no_void no_pointer = absurd (none-some name.at (sym no_pointer))
number-type at name type_name.Mutex plain no_void no_pointer = absurd plain

module _ (w : Site) (base : Option (Placed NameId)) (info : ClassInfo) where
  item-clear : (index : ℕ) (name : Placed NameId) → Right (form.item_name w info index name)
      → (look.stands_before (named info.items name.item.0) index ≡ false) × (n2.is_inherited w info.base name ≡ false)
  item-clear index name h =
      neither (look.stands_before (named info.items name.item.0) index) (n2.is_inherited w info.base name)
      (holds (not (c.either (look.stands_before (named info.items name.item.0) index)
      (n2.is_inherited w info.base name))) name.at h.1)

  pub good-members : (seen : ItemsSeen) (is : List ItemTree) → Every HasPlainType is
      → Rights (p.forms_of_items w base info seen is) → Every (IsGoodMember w info) (members is)
  good-members seen [] plain h = tt
  good-members seen (tree.label at a ∷ is) plain h = good-members (c.next_seen (tree.label at a) seen) is plain.1 h
  good-members seen (tree.member m ∷ is) plain h = (
    (
      (item-clear seen.index m.name h.1.1.1.0).1,
      number-type m.type_name.at m.name m.type_name.item plain.0 h.1.0.7
          h.1.1.0.7,
    ),
    good-members (c.next_seen (tree.member m) seen) is plain.1
        (back (p.forms_of_item w base info seen (tree.member m)) _ h),
  )
  good-members seen (tree.function f ∷ is) plain h =
      good-members (c.next_seen (tree.function f) seen) is plain.1
      (back (p.forms_of_item w base info seen (tree.function f)) _ h)
  good-members seen (tree.ctor k ∷ is) plain h =
      good-members (c.next_seen (tree.ctor k) seen) is plain.1
      (back (p.forms_of_item w base info seen (tree.ctor k)) _ h)
  good-members seen (tree.dtor k ∷ is) plain h =
      good-members (c.next_seen (tree.dtor k) seen) is plain.1
      (back (p.forms_of_item w base info seen (tree.dtor k)) _ h)

-- ---- tables

-- entries are of items before this many
abbrev AreBefore : ℕ → List (ℕ × ℕ) → Type 0
AreBefore count table = (g j : ℕ) → named table g ≡ Some j → j < count

before-with : (count : ℕ) (table : List (ℕ × ℕ)) (name : ℕ) → AreBefore count table
    → AreBefore (suc count) (with_name table name count)
before-with count table name before g j e =
    by (nat_eq g name) (named table g) refl (sym (named-with table name count g) ∙ e)
  where
    by : (t : Bool) (o : Option ℕ) → named table g ≡ o → look.or_next o (if t then Some count else None) ≡ Some j
        → j < suc count
    by t (Some y) is f = let old = before g j (is ∙ f) in omega arith
    by true None is f = let same : count ≡ j = same_Some count j f in omega arith
    by false None is f = absurd (none-some j f)

before-later : (count : ℕ) (table : List (ℕ × ℕ)) → AreBefore count table → AreBefore (suc count) table
before-later count table before g j e = let old = before g j e in omega arith

-- what a name stands for among the items goes on standing for it
items-still : (is : List ItemTree) (y : ClassInfo) (shown : Access) (count n : ℕ) (g j : ℕ) → named y.items g ≡ Some j
    → named (behind y shown count n is).items g ≡ Some j
items-still [] y shown count n g j e = e
items-still (tree.label at a ∷ is) y shown count n g j e = items-still is y a (suc count) n g j e
items-still (tree.member m ∷ is) y shown count n g j e =
    items-still is (member_behind y shown count n m) shown (suc count) n g j
    (named-still y.items m.name.item.0 count g j e)
items-still (tree.function f ∷ is) y shown count n g j e =
    items-still is (function_behind y shown count n f) shown (suc count) (suc n) g j
    (named-still y.items f.name.item.0 count g j e)
items-still (tree.ctor k ∷ is) y shown count n g j e =
    items-still is (ctor_behind y shown count n k) shown (suc count) (suc n) g j e
items-still (tree.dtor k ∷ is) y shown count n g j e =
    items-still is (dtor_behind y shown count n) shown (suc count) (suc n) g j e

members-still : (is : List ItemTree) (y : ClassInfo) (shown : Access) (count n : ℕ) (g : ℕ) (e : MemberInfo)
    → named y.members g ≡ Some e → named (behind y shown count n is).members g ≡ Some e
members-still [] y shown count n g e at = at
members-still (tree.label place a ∷ is) y shown count n g e at = members-still is y a (suc count) n g e at
members-still (tree.member m ∷ is) y shown count n g e at =
    members-still is (member_behind y shown count n m) shown (suc count) n g e
    (named-still y.members m.name.item.0 (record { type_name = m.type_name.item; access = shown }) g e at)
members-still (tree.function f ∷ is) y shown count n g e at =
    members-still is (function_behind y shown count n f) shown (suc count) (suc n) g e at
members-still (tree.ctor k ∷ is) y shown count n g e at =
    members-still is (ctor_behind y shown count n k) shown (suc count) (suc n) g e at
members-still (tree.dtor k ∷ is) y shown count n g e at =
    members-still is (dtor_behind y shown count n) shown (suc count) (suc n) g e at

none-before : (is : List ItemTree) (y : ClassInfo) (shown : Access) (count n : ℕ) (g : ℕ)
    → named (behind y shown count n is).items g ≡ None → named y.items g ≡ None
none-before is y shown count n g e = by (named y.items g) refl
  where
    by : (o : Option ℕ) → named y.items g ≡ o → o ≡ None
    by None at = refl
    by (Some j) at = absurd (none-some j (sym e ∙ items-still is y shown count n g j at))

-- the names of members and functions stand among the items
abbrev pub TablesFit : ClassInfo → Type 0
TablesFit y = (g : ℕ) → named y.items g ≡ None → (named y.members g ≡ None) × (named y.methods g ≡ None)

none-with : {V : Type 0} (es : List (ℕ × V)) (name : ℕ) (v : V) (g : ℕ) → named (with_name es name v) g ≡ None
    → (named es g ≡ None) × (g ≢ name)
none-with {V = V} es name v g e = by (nat_eq g name) refl (named es g) refl (sym (named-with es name v g) ∙ e)
  where
    by : (t : Bool) → nat_eq g name ≡ t → (o : Option V) → named es g ≡ o
        → look.or_next o (if t then Some v else None) ≡ None → (named es g ≡ None) × (g ≢ name)
    by t is (Some y) at f = absurd (none-some y (sym f))
    by true is None at f = absurd (none-some v (sym f))
    by false is None at f = (
      at,
      λ same. let z : true ≡ false = sym (same-number name) ∙ (ap (λ k. nat_eq k name) (sym same) ∙ is) in
          absurd (cc z),
    )

pub tables-fit : (is : List ItemTree) (y : ClassInfo) (shown : Access) (count n : ℕ) → TablesFit y
    → TablesFit (behind y shown count n is)
tables-fit [] y shown count n fit = fit
tables-fit (tree.label at a ∷ is) y shown count n fit = tables-fit is y a (suc count) n fit
tables-fit (tree.member m ∷ is) y shown count n fit =
    tables-fit is (member_behind y shown count n m) shown (suc count) n
    (λ g e. let old = none-with y.items m.name.item.0 count g e in (
      named-other y.members m.name.item.0 (record { type_name = m.type_name.item; access = shown }) g old.1
          ∙ (fit g old.0).0,
      (fit g old.0).1,
    ))
tables-fit (tree.function f ∷ is) y shown count n fit =
    tables-fit is (function_behind y shown count n f) shown (suc count) (suc n)
    (λ g e. let old = none-with y.items f.name.item.0 count g e in (
      (fit g old.0).0,
      named-other y.methods f.name.item.0 (d.signature n f.result.item f.params shown false) g old.1
          ∙ (fit g old.0).1,
    ))
tables-fit (tree.ctor k ∷ is) y shown count n fit =
    tables-fit is (ctor_behind y shown count n k) shown (suc count) (suc n) fit
tables-fit (tree.dtor k ∷ is) y shown count n fit =
    tables-fit is (dtor_behind y shown count n) shown (suc count) (suc n) fit

-- each member has an entry
abbrev HasEntry : ClassInfo → Member → Type 0
HasEntry z m = (e : MemberInfo) × (named z.members m.name.item.0 ≡ Some e)

entry-with : (es : List (ℕ × MemberInfo)) (name : ℕ) (v : MemberInfo)
    → (e : MemberInfo) × (named (with_name es name v) name ≡ Some e)
entry-with es name v = by (named es name) refl
  where
    by : (o : Option MemberInfo) → named es name ≡ o → (e : MemberInfo) × (named (with_name es name v) name ≡ Some e)
    by None at = (v, named-new es name v at)
    by (Some e) at = (e, named-still es name v name e at)

pub have-entries : (is : List ItemTree) (y : ClassInfo) (shown : Access) (count n : ℕ)
    → Every (HasEntry (behind y shown count n is)) (members is)
have-entries [] y shown count n = tt
have-entries (tree.label at a ∷ is) y shown count n = have-entries is y a (suc count) n
have-entries (tree.member m ∷ is) y shown count n =
    let here = entry-with y.members m.name.item.0 (record { type_name = m.type_name.item; access = shown }) in (
      (here.0, members-still is (member_behind y shown count n m) shown (suc count) n m.name.item.0 here.0 here.1),
      have-entries is (member_behind y shown count n m) shown (suc count) n,
    )
have-entries (tree.function f ∷ is) y shown count n =
    have-entries is (function_behind y shown count n f) shown (suc count) (suc n)
have-entries (tree.ctor k ∷ is) y shown count n =
    have-entries is (ctor_behind y shown count n k) shown (suc count) (suc n)
have-entries (tree.dtor k ∷ is) y shown count n =
    have-entries is (dtor_behind y shown count n) shown (suc count) (suc n)

-- all entries are of number types
abbrev pub HoldNumbers : List (ℕ × MemberInfo) → Type 0
HoldNumbers es = (g : ℕ) (e : MemberInfo) → named es g ≡ Some e → IsNumberType e.type_name

numbers-with : (es : List (ℕ × MemberInfo)) (name : ℕ) (v : MemberInfo) → IsNumberType v.type_name → HoldNumbers es
    → HoldNumbers (with_name es name v)
numbers-with es name v number old g e at = by (nat_eq g name) (named es g) refl (sym (named-with es name v g) ∙ at)
  where
    by : (t : Bool) (o : Option MemberInfo) → named es g ≡ o → look.or_next o (if t then Some v else None) ≡ Some e
        → IsNumberType e.type_name
    by t (Some y) is f = old g e (is ∙ f)
    by true None is f = subst (λ (y : MemberInfo). IsNumberType y.type_name) (same_Some v e f) number
    by false None is f = absurd (none-some e f)

pub hold-numbers : (is : List ItemTree) → Every (λ (m : Member). IsNumberType m.type_name.item) (members is)
    → (y : ClassInfo) (shown : Access) (count n : ℕ) → HoldNumbers y.members
    → HoldNumbers (behind y shown count n is).members
hold-numbers [] numbers y shown count n old = old
hold-numbers (tree.label at a ∷ is) numbers y shown count n old = hold-numbers is numbers y a (suc count) n old
hold-numbers (tree.member m ∷ is) numbers y shown count n old =
    hold-numbers is numbers.1 (member_behind y shown count n m) shown (suc count) n
    (numbers-with y.members m.name.item.0 (record { type_name = m.type_name.item; access = shown }) numbers.0 old)
hold-numbers (tree.function f ∷ is) numbers y shown count n old =
    hold-numbers is numbers (function_behind y shown count n f) shown (suc count) (suc n) old
hold-numbers (tree.ctor k ∷ is) numbers y shown count n old =
    hold-numbers is numbers (ctor_behind y shown count n k) shown (suc count) (suc n) old
hold-numbers (tree.dtor k ∷ is) numbers y shown count n old =
    hold-numbers is numbers (dtor_behind y shown count n) shown (suc count) (suc n) old

-- ---- members have names of their own

abbrev pub DifferFrom : ℕ → List Member → Type 0
DifferFrom g ms = Every (λ (m : Member). g ≢ m.name.item.0) ms

abbrev pub AllDiffer : List Member → Type 0
AllDiffer [] = Unit {0}
AllDiffer (m ∷ ms) = DifferFrom m.name.item.0 ms × AllDiffer ms

module _ (w : Site) (base : Option (Placed NameId)) (info : ClassInfo) where
  -- no member that is still to come has the name of an item so far
  still-new : (is : List ItemTree) (y : ClassInfo) (shown : Access) (count n : ℕ) (seen : ItemsSeen)
      → seen.index ≡ count → AreBefore count y.items → info.items ≡ (behind y shown count n is).items
      → Rights (p.forms_of_items w base info seen is)
      → Every (λ (m : Member). named y.items m.name.item.0 ≡ None) (members is)
  still-new [] y shown count n seen at before all h = tt
  still-new (tree.label place a ∷ is) y shown count n seen at before all h =
      still-new is y a (suc count) n (c.next_seen (tree.label place a) seen) (ap suc at)
      (before-later count y.items before) all h
  still-new (tree.member m ∷ is) y shown count n seen at before all h = (
    here (named y.items m.name.item.0) refl,
    every-by _ _ (λ (q : Member) none. (none-with y.items m.name.item.0 count q.name.item.0 none).0) (members is)
        (still-new is (member_behind y shown count n m) shown (suc count) n (c.next_seen (tree.member m) seen)
        (ap suc at) (before-with count y.items m.name.item.0 before) all
        (back (p.forms_of_item w base info seen (tree.member m)) _ h)),
  )
    where
      here : (o : Option ℕ) → named y.items m.name.item.0 ≡ o → o ≡ None
      here None e = refl
      here (Some j) e =
          let clear = (item-clear w base info seen.index m.name h.1.1.1.0).0 in
          let still : named info.items m.name.item.0 ≡ Some j =
          ap (λ t. named t m.name.item.0) all
          ∙ items-still is (member_behind y shown count n m) shown (suc count) n m.name.item.0 j
          (named-still y.items m.name.item.0 count m.name.item.0 j e) in
          let less : look.stands_before (Some j) seen.index ≡ true =
          lt-ltb j seen.index (let b = before m.name.item.0 j e in omega arith) in
          let z : true ≡ false =
          sym less ∙ (ap (λ o. look.stands_before o seen.index) (sym still) ∙ clear) in absurd (cc z)
  still-new (tree.function f ∷ is) y shown count n seen at before all h =
      every-by _ _ (λ (q : Member) none. (none-with y.items f.name.item.0 count q.name.item.0 none).0) (members is)
      (still-new is (function_behind y shown count n f) shown (suc count) (suc n) (c.next_seen (tree.function f) seen)
      (ap suc at) (before-with count y.items f.name.item.0 before) all
      (back (p.forms_of_item w base info seen (tree.function f)) _ h))
  still-new (tree.ctor k ∷ is) y shown count n seen at before all h =
      still-new is (ctor_behind y shown count n k) shown (suc count) (suc n) (c.next_seen (tree.ctor k) seen)
      (ap suc at) (before-later count y.items before) all
      (back (p.forms_of_item w base info seen (tree.ctor k)) _ h)
  still-new (tree.dtor k ∷ is) y shown count n seen at before all h =
      still-new is (dtor_behind y shown count n) shown (suc count) (suc n) (c.next_seen (tree.dtor k) seen)
      (ap suc at) (before-later count y.items before) all
      (back (p.forms_of_item w base info seen (tree.dtor k)) _ h)

  pub members-differ : (is : List ItemTree) (y : ClassInfo) (shown : Access) (count n : ℕ) (seen : ItemsSeen)
      → seen.index ≡ count → AreBefore count y.items → info.items ≡ (behind y shown count n is).items
      → Rights (p.forms_of_items w base info seen is) → AllDiffer (members is)
  members-differ [] y shown count n seen at before all h = tt
  members-differ (tree.label place a ∷ is) y shown count n seen at before all h =
      members-differ is y a (suc count) n (c.next_seen (tree.label place a) seen) (ap suc at)
      (before-later count y.items before) all h
  members-differ (tree.member m ∷ is) y shown count n seen at before all h =
      let after = member_behind y shown count n m in
      let rest = back (p.forms_of_item w base info seen (tree.member m)) _ h in
      let later = before-with count y.items m.name.item.0 before in (
        every-by (λ (q : Member). named after.items q.name.item.0 ≡ None)
            (λ (q : Member). m.name.item.0 ≢ q.name.item.0)
            (λ q none same. (none-with y.items m.name.item.0 count q.name.item.0 none).1 (sym same)) (members is)
            (still-new is after shown (suc count) n (c.next_seen (tree.member m) seen) (ap suc at) later all rest),
        members-differ is after shown (suc count) n (c.next_seen (tree.member m) seen) (ap suc at) later all rest,
      )
  members-differ (tree.function f ∷ is) y shown count n seen at before all h =
      members-differ is (function_behind y shown count n f) shown (suc count) (suc n)
      (c.next_seen (tree.function f) seen) (ap suc at) (before-with count y.items f.name.item.0 before) all
      (back (p.forms_of_item w base info seen (tree.function f)) _ h)
  members-differ (tree.ctor k ∷ is) y shown count n seen at before all h =
      members-differ is (ctor_behind y shown count n k) shown (suc count) (suc n) (c.next_seen (tree.ctor k) seen)
      (ap suc at) (before-later count y.items before) all
      (back (p.forms_of_item w base info seen (tree.ctor k)) _ h)
  members-differ (tree.dtor k ∷ is) y shown count n seen at before all h =
      members-differ is (dtor_behind y shown count n) shown (suc count) (suc n) (c.next_seen (tree.dtor k) seen)
      (ap suc at) (before-later count y.items before) all
      (back (p.forms_of_item w base info seen (tree.dtor k)) _ h)
