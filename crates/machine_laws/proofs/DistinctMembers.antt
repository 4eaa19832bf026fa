-- A program in which nothing is declared twice has no class with two members of one name.
use Rattle.std.proofs.Common.{◌≡◌, ℕ, zero, suc, ◌+◌, ◌<◌, ◌⊎◌, inl, inr, Bool, true, false, not, List, [], ◌∷◌, ◌++◌, length, Option, Some, None, slice_get, refl, sym, ap, subst, ◌∙◌, arith, length-append}
use Rattle.std.proofs.lemmas.Option.{none-some, same_Some}
use Rattle.std.proofs.lemmas.Bool.{lt-ltb}
use Rattle.agxx_base.specs.declared.ids.NameId.{NameId}
use Rattle.agxx_base.specs.declared.place.Place.{Place}
use Rattle.cxx_tree.specs.declared.node.Placed.{Placed}
use Rattle.cxx_tree.specs.declared.program.Access.{Access}
use Rattle.cxx_tree.specs.ProgramTree as p
use Rattle.cxx_names.specs.declared.declarations.ClassInfo.{ClassInfo}
use Rattle.cxx_names.specs.declared.declarations.Declared.{Declared}
use Rattle.cxx_names.specs.Tables.{named, with_name}
use Rattle.cxx_names.specs.LookUp.{stands_before}
use Rattle.cxx_names.specs.Declarations as d
use Rattle.cxx_names.specs.Declarations.{with_items, with_member, with_method, with_ctor, with_dtor, default_access, class_begun, class_items, empty, with_class, with_decl, with_decls}
use Rattle.cxx_types.specs.declared.classes.ItemsSeen.{ItemsSeen}
use Rattle.cxx_types.specs.declared.programs.DeclsSeen.{DeclsSeen}
use Rattle.cxx_types.specs.Classes as classes
use Rattle.cxx_types.specs.Classes.{either, none_seen}
use Rattle.cxx_types.specs.Programs as programs
use Rattle.cxx_rules.specs.Sites.{Site}
use Rattle.cxx_rules.specs.Forms as form
use Rattle.cxx_rules.specs.Forms.{Form}
use Rattle.cxx_rules.specs.ProgramForms.{forms_of_item, forms_of_items, forms_of_class, forms_of_decl, forms_of_decls, in_class, top}
use Rattle.cxx_rules.specs.Unless.{unless, with_place, places_in}
use Rattle.cxx_rules.specs.DeclaredTwice.{declared_twice_at, is_inherited}
use Rattle.cxx_rules.specs.Rules.{declared_twice}
use Rattle.machine_laws.specs.Locates.{IsDistinct}
use Rattle.machine_laws.specs.Layouts.{HasDistinctMembers, member_names}
use Rattle.machine_laws.proofs.Lists.{named-with}
use Rattle.machine_laws.proofs.MemberKinds.{some-with, new-with}
use Rattle.machine_laws.proofs.Layouts as layouts

-- ---- no place is told

abbrev IsClear : List Form → Type 0
IsClear fs = places_in declared_twice_at fs ≡ []

none-told : (o : Option Place) (places : List Place) → with_place o places ≡ [] → (o ≡ None) × (places ≡ [])
none-told None places e = (refl, e)
none-told (Some at) places e = cc

clear-first : (f : Form) (fs : List Form) → IsClear (f ∷ fs) → declared_twice_at f ≡ None
clear-first f fs e = (none-told (declared_twice_at f) (places_in declared_twice_at fs) e).0

clear-rest : (f : Form) (fs : List Form) → IsClear (f ∷ fs) → IsClear fs
clear-rest f fs e = (none-told (declared_twice_at f) (places_in declared_twice_at fs) e).1

clear-left : (a b : List Form) → IsClear (a ++ b) → IsClear a
clear-left [] b e = refl
clear-left (f ∷ a) b e =
    ap (λ o. with_place o (places_in declared_twice_at a)) (clear-first f (a ++ b) e) ∙ clear-left a b (clear-rest f (a ++ b) e)

clear-right : (a b : List Form) → IsClear (a ++ b) → IsClear b
clear-right [] b e = e
clear-right (f ∷ a) b e = clear-right a b (clear-rest f (a ++ b) e)

not-before : (before inherited : Bool) (at : Place) → unless (not (either before inherited)) at ≡ None → before ≡ false
not-before true inherited at e = absurd (none-some at (sym e))
not-before false inherited at e = refl

-- ---- items of a class

module _ (table : List (ℕ × ℕ)) where
  -- no member stands behind an item of its name, where this many items stand before
  abbrev AreFirst : ℕ → List p.ItemTree → Type 0
  AreFirst n [] = Unit {0}
  AreFirst n (p.member m ∷ is) = (stands_before (named table m.name.item.0) n ≡ false) × AreFirst (suc n) is
  AreFirst n (_ ∷ is) = AreFirst (suc n) is

  stands : (name f n : ℕ) → named table name ≡ Some f → f < n → stands_before (named table name) n ≡ false → ⊥
  stands name f n e h z = let t : true ≡ false = sym (lt-ltb f n h) ∙ ap (λ o. stands_before o n) (sym e) ∙ z in cc

  not-later : (is : List p.ItemTree) (n name f j : ℕ) → AreFirst n is → named table name ≡ Some f → f < n → slice_get (member_names is) j ≡ Some name → ⊥
  not-later [] n name f j first e h at = none-some name at
  not-later (p.label here access ∷ is) n name f j first e h at = not-later is (suc n) name f j first e (omega arith) at
  not-later (p.function x ∷ is) n name f j first e h at = not-later is (suc n) name f j first e (omega arith) at
  not-later (p.ctor x ∷ is) n name f j first e h at = not-later is (suc n) name f j first e (omega arith) at
  not-later (p.dtor x ∷ is) n name f j first e h at = not-later is (suc n) name f j first e (omega arith) at
  not-later (p.member m ∷ is) n name f zero first e h at =
      let same : m.name.item.0 ≡ name = same_Some m.name.item.0 name at in
      stands m.name.item.0 f n (ap (named table) same ∙ e) h first.0
  not-later (p.member m ∷ is) n name f (suc j) first e h at = not-later is (suc n) name f j first.1 e (omega arith) at

one-more-distinct : (name : ℕ) (ns : List ℕ) → IsDistinct ns → ((j : ℕ) → slice_get ns j ≡ Some name → ⊥) → IsDistinct (name ∷ ns)
one-more-distinct name ns distinct new = record { apart = by }
  where
    by : (i j n : ℕ) → slice_get (name ∷ ns) i ≡ Some n → slice_get (name ∷ ns) j ≡ Some n → i ≡ j
    by zero zero n e f = refl
    by zero (suc j) n e f = absurd (new j (f ∙ sym e))
    by (suc i) zero n e f = absurd (new i (e ∙ sym f))
    by (suc i) (suc j) n e f = ap suc (distinct.apart i j n e f)

abbrev Table : ClassInfo → Access → ℕ → ℕ → List p.ItemTree → List (ℕ × ℕ)
Table info shown count n is = (with_items (record { info = info; shown = shown; count = count; numbered = n }) is).info.items

stays : (is : List p.ItemTree) (info : ClassInfo) (shown : Access) (count n name f : ℕ) → named info.items name ≡ Some f → named (Table info shown count n is) name ≡ Some f
stays [] info shown count n name f e = e
stays (p.label at access ∷ is) info shown count n name f e = stays is info access (suc count) n name f e
stays (p.function x ∷ is) info shown count n name f e =
    stays is (with_method (record { info = info; shown = shown; count = count; numbered = n }) x).info shown (suc count) (suc n) name f
    (some-with info.items x.name.item.0 count name f e)
stays (p.ctor x ∷ is) info shown count n name f e =
    stays is (with_ctor (record { info = info; shown = shown; count = count; numbered = n }) x.params).info shown (suc count) (suc n) name f e
stays (p.dtor x ∷ is) info shown count n name f e =
    stays is (with_dtor (record { info = info; shown = shown; count = count; numbered = n })).info shown (suc count) (suc n) name f e
stays (p.member m ∷ is) info shown count n name f e =
    stays is (with_member (record { info = info; shown = shown; count = count; numbered = n }) m).info shown (suc count) n name f
    (some-with info.items m.name.item.0 count name f e)

-- entries are of items before this many
abbrev AreBefore : ℕ → List (ℕ × ℕ) → Type 0
AreBefore count table = (name f : ℕ) → named table name ≡ Some f → f < count

one-more-before : (count : ℕ) (table : List (ℕ × ℕ)) (n : ℕ) → AreBefore count table → AreBefore (suc count) (with_name table n count)
one-more-before count table n before name f e = by (named-with table n count name f e)
  where
    by : (named table name ≡ Some f) ⊎ (count ≡ f) → f < suc count
    by (inl old) = let h = before name f old in omega arith
    by (inr new) = omega arith

later-before : (count : ℕ) (table : List (ℕ × ℕ)) → AreBefore count table → AreBefore (suc count) table
later-before count table before name f e = let h = before name f e in omega arith

-- the item of a name that was added is this one or one before it
added : (count : ℕ) (table : List (ℕ × ℕ)) (name : ℕ) → AreBefore count table → (f : ℕ) × (named (with_name table name count) name ≡ Some f) × (f < suc count)
added count table name before = by (named table name) refl
  where
    by : (o : Option ℕ) → named table name ≡ o → (f : ℕ) × (named (with_name table name count) name ≡ Some f) × (f < suc count)
    by None e = (count, new-with table name count e, omega arith)
    by (Some f) e = let h = before name f e in (f, some-with table name count name f e, omega arith)

distinct-of : (is : List p.ItemTree) (info : ClassInfo) (shown : Access) (count n : ℕ) → AreBefore count info.items → AreFirst (Table info shown count n is) count is → IsDistinct (member_names is)
distinct-of [] info shown count n before first = record { apart = λ i j m e f. absurd (none-some m e) }
distinct-of (p.label at access ∷ is) info shown count n before first = distinct-of is info access (suc count) n (later-before count info.items before) first
distinct-of (p.function x ∷ is) info shown count n before first =
    distinct-of is (with_method (record { info = info; shown = shown; count = count; numbered = n }) x).info shown (suc count) (suc n)
    (one-more-before count info.items x.name.item.0 before) first
distinct-of (p.ctor x ∷ is) info shown count n before first =
    distinct-of is (with_ctor (record { info = info; shown = shown; count = count; numbered = n }) x.params).info shown (suc count) (suc n) (later-before count info.items before) first
distinct-of (p.dtor x ∷ is) info shown count n before first =
    distinct-of is (with_dtor (record { info = info; shown = shown; count = count; numbered = n })).info shown (suc count) (suc n) (later-before count info.items before) first
distinct-of (p.member m ∷ is) info shown count n before first =
    let name = m.name.item.0 in
    let after = (with_member (record { info = info; shown = shown; count = count; numbered = n }) m).info in
    let here = added count info.items name before in
    one-more-distinct name (member_names is)
    (distinct-of is after shown (suc count) n (one-more-before count info.items name before) first.1)
    (λ j at. not-later (Table after shown (suc count) n is) is (suc count) name here.0 j first.1
    (stays is after shown (suc count) n name here.0 here.1) here.2 at)

-- ---- what the rule says of the items of a class

module _ (w : Site) (base : Option (Placed NameId)) (info : ClassInfo) where
  first-items : (is : List p.ItemTree) (seen : ItemsSeen) → IsClear (forms_of_items w base info seen is) → AreFirst info.items seen.index is
  first-items [] seen e = tt
  first-items (p.label at access ∷ is) seen e = first-items is (classes.next_seen (p.label at access) seen) e
  first-items (p.function x ∷ is) seen e =
      first-items is (classes.next_seen (p.function x) seen) (clear-right (forms_of_item w base info seen (p.function x)) (forms_of_items w base info (classes.next_seen (p.function x) seen) is) e)
  first-items (p.ctor x ∷ is) seen e =
      first-items is (classes.next_seen (p.ctor x) seen) (clear-right (forms_of_item w base info seen (p.ctor x)) (forms_of_items w base info (classes.next_seen (p.ctor x) seen) is) e)
  first-items (p.dtor x ∷ is) seen e =
      first-items is (classes.next_seen (p.dtor x) seen) (clear-right (forms_of_item w base info seen (p.dtor x)) (forms_of_items w base info (classes.next_seen (p.dtor x) seen) is) e)
  first-items (p.member m ∷ is) seen e =
      let rest = forms_of_items w base info (classes.next_seen (p.member m) seen) is in
      let mine = clear-left (forms_of_item w base info seen (p.member m)) rest e in
      let before : Bool = stands_before (named info.items m.name.item.0) seen.index in
      let at = none-told (unless (not (either before (is_inherited w info.base m.name))) m.name.at) (places_in declared_twice_at (form.apart w m.name ∷ [])) mine in (
        not-before before (is_inherited w info.base m.name) m.name.at at.0,
        first-items is (classes.next_seen (p.member m) seen) (clear-right (forms_of_item w base info seen (p.member m)) rest e),
      )

class-distinct : (w : Site) (found : Declared) (c : p.ClassTree) (o : Option ClassInfo) → o ≡ Some (class_items found c).info → IsClear (forms_of_class w c o) → IsDistinct (member_names c.items)
class-distinct w found c None e clear = absurd (none-some (class_items found c).info e)
class-distinct w found c (Some info) e clear =
    let same : info ≡ (class_items found c).info = same_Some info (class_items found c).info e in
    distinct-of c.items (class_begun found c) (default_access c.word) 0 found.numbered (λ name f z. absurd (none-some f z))
    (subst (λ (y : ClassInfo). AreFirst y.items 0 c.items) same (first-items w c.base info c.items none_seen clear))

-- ---- programs

at-seam : {A : Type 0} (xs : List A) (y : A) (ys : List A) → slice_get (xs ++ y ∷ ys) (length xs) ≡ Some y
at-seam [] y ys = refl
at-seam (x ∷ xs) y ys = at-seam xs y ys

module _ (names : List (List ℕ)) (w : Site) where
  decls-distinct : (xs : List p.DeclTree) (found : Declared) (seen : DeclsSeen) → seen.classes ≡ length found.classes → w.declared.classes ≡ (with_decls names found xs).classes
      → IsClear (forms_of_decls w seen xs) → (i : ℕ) (c : p.ClassTree) → slice_get xs i ≡ Some (p.class c) → IsDistinct (member_names c.items)
  decls-distinct [] found seen k e clear i c at = absurd (none-some (p.class c) at)
  decls-distinct (x ∷ xs) found seen k e clear zero c at =
      let same : x ≡ p.class c = same_Some x (p.class c) at in
      let mine : IsClear (forms_of_decl w seen (p.class c)) =
      subst (λ z. IsClear (forms_of_decl w seen z)) same (clear-left (forms_of_decl w seen x) (forms_of_decls w (programs.next_seen x seen) xs) clear) in
      let listed : w.declared.classes ≡ found.classes ++ (class_items found c).info ∷ layouts.infos names (with_class found c) xs =
      e ∙ ap (λ z. (with_decls names found (z ∷ xs)).classes) same ∙ layouts.classes-are names (p.class c ∷ xs) found in
      let here : d.class_at w.declared (record { 0 = seen.classes }) ≡ Some (class_items found c).info =
      ap (slice_get w.declared.classes) k ∙ ap (λ l. slice_get l (length found.classes)) listed
      ∙ at-seam found.classes (class_items found c).info (layouts.infos names (with_class found c) xs) in
      let inner : List Form = forms_of_class (in_class w seen) c (d.class_at w.declared (record { 0 = seen.classes })) in
      class-distinct (in_class w seen) found c (d.class_at w.declared (record { 0 = seen.classes })) here
      (none-told (declared_twice_at (form.decl_name w seen.index c.name)) (places_in declared_twice_at inner) mine).1
  decls-distinct (x ∷ xs) found seen k e clear (suc i) c at =
      decls-distinct xs (with_decl names found x) (programs.next_seen x seen) (next x) e
      (clear-right (forms_of_decl w seen x) (forms_of_decls w (programs.next_seen x seen) xs) clear) i c at
    where
      next : (y : p.DeclTree) → (programs.next_seen y seen).classes ≡ length (with_decl names found y).classes
      next (p.class z) = ap suc k ∙ sym (length-append found.classes ((class_items found z).info ∷ []) ∙ (let o : length found.classes + 1 ≡ suc (length found.classes) = omega arith in o))
      next (p.class_name z) = k
      next (p.free_function z) = k
      next (p.proto z) = k
      next (p.global z) = k

pub distinct-members : (names : List (List ℕ)) (q : p.ProgramTree) → declared_twice names q ≡ [] → HasDistinctMembers q
distinct-members names q clear = record {
  of_class = decls-distinct names (top names q) q.decls empty programs.none_seen refl refl
      (clear-left (forms_of_decls (top names q) programs.none_seen q.decls) (form.names q ∷ []) clear);
}
