-- Labels of items that are those of the normal form, also with what is added behind the items.
use Rattle.std.proofs.Common.{◌≡◌, ℕ, refl, sym, ap, subst, ◌∙◌, Bool, true, false, true≢false, if◌then◌else◌, List, [], ◌∷◌, ◌++◌, map}
use Rattle.agxx_base.specs.declared.ids.NameId.{NameId}
use Rattle.agxx_base.specs.declared.place.Place.{Place}
use Rattle.cxx_tree.specs.declared.program.Access.{Access}
use Rattle.cxx_tree.specs.declared.program.Access.TheVariants as access_of
use Rattle.cxx_tree.specs.declared.program.Member.{Member}
use Rattle.cxx_tree.specs.ProgramTree as p
use Rattle.cxx_tree.specs.ProgramTree.{FunctionTree, ItemTree}
use Rattle.cxx_normal.specs.Labels.{same_access, accesses, labelled_item, labelled}
use Rattle.protect.specs.Protected as z

same-self : (a : Access) → same_access a a ≡ true
same-self access_of.Public = refl
same-self access_of.Protected = refl
same-self access_of.Private = refl

-- ---- lists of items

abbrev is_label : ItemTree → Bool
is_label (p.label at access) = true
is_label (p.member m) = false
is_label (p.function f) = false
is_label (p.ctor c) = false
is_label (p.dtor d) = false

abbrev first_label : List ItemTree → Bool
first_label [] = false
first_label (item ∷ items) = is_label item

abbrev after_first : List ItemTree → List ItemTree
after_first [] = []
after_first (item ∷ items) = items

abbrev place_by : Place → ItemTree → Place
place_by other (p.label at access) = at
place_by other (p.member m) = other
place_by other (p.function f) = other
place_by other (p.ctor c) = other
place_by other (p.dtor d) = other

abbrev place_of_first : Place → List ItemTree → Place
place_of_first other [] = other
place_of_first other (item ∷ items) = place_by other item

module _ (at : Place) where
  -- the labels are those of the normal form, where this access is in force
  abbrev pub IsLabelled : Access → List ItemTree → Type 0
  IsLabelled shown items = labelled at shown (accesses shown items) ≡ items

  -- ---- an item without a label

  abbrev chosen : Access → ItemTree → List ItemTree → Bool → List ItemTree
  chosen next item rest same = if same then item ∷ rest else p.label at next ∷ item ∷ rest

  one-on : (shown : Access) (item : ItemTree) (rest items : List ItemTree) → rest ≡ items
      → labelled_item at shown shown item rest ≡ item ∷ items
  one-on shown item rest items is = ap (chosen shown item rest) (same-self shown) ∙ ap (λ x. item ∷ x) is

  one-off : (shown : Access) (item : ItemTree) (rest items : List ItemTree)
      → labelled_item at shown shown item rest ≡ item ∷ items → rest ≡ items
  one-off shown item rest items is = ap after_first (sym (ap (chosen shown item rest) (same-self shown)) ∙ is)

  -- ---- an item behind a label

  abbrev IsOpened : Access → Access → Place → List ItemTree → List ItemTree → Type 0
  IsOpened shown next place rest items = (same_access shown next ≡ false) × (at ≡ place) × (rest ≡ items)

  label-off : (shown next : Access) (place : Place) (item : ItemTree) (rest items : List ItemTree) → is_label item
      ≡ false
      → labelled_item at shown next item rest ≡ p.label place next ∷ item ∷ items → IsOpened shown next place rest items
  label-off shown next place item rest items plain is = by (same_access shown next) refl is
    where
      by : (b : Bool) → same_access shown next ≡ b → chosen next item rest b ≡ p.label place next ∷ item ∷ items
          → IsOpened shown next place rest items
      by true e is = absurd (true≢false (sym (ap first_label is) ∙ plain))
      by false e is = (e, ap (place_of_first at) is, ap (λ x. after_first (after_first x)) is)

  label-on : (shown next : Access) (place : Place) (item : ItemTree) (rest items : List ItemTree)
      → same_access shown next ≡ false
      → at ≡ place → rest ≡ items → labelled_item at shown next item rest ≡ p.label place next ∷ item ∷ items
  label-on shown next place item rest items other place_is is =
      ap (chosen next item rest) other ∙ ap (λ x. p.label at next ∷ item ∷ x) is
      ∙ ap (λ x. p.label x next ∷ item ∷ items) place_is

  -- no two labels stand behind each other
  two-apart : (shown next : Access) (item : ItemTree) (rest items : List ItemTree) → is_label item ≡ false
      → labelled_item at shown next item rest ≡ items → first_label items ≡ true → first_label (after_first items)
      ≡ true → ⊥
  two-apart shown next item rest items plain is first second = by (same_access shown next) is
    where
      by : (b : Bool) → chosen next item rest b ≡ items → ⊥
      by true is = true≢false (sym first ∙ sym (ap first_label is) ∙ plain)
      by false is = true≢false (sym second ∙ sym (ap (λ x. first_label (after_first x)) is) ∙ plain)

  two-labels : (shown next : Access) (items others : List ItemTree) → labelled at shown (accesses next items) ≡ others
      → first_label others ≡ true → first_label (after_first others) ≡ true → ⊥
  two-labels shown next [] others is first second = true≢false (sym first ∙ sym (ap first_label is))
  two-labels shown next (p.label place after ∷ items) others is first second =
      two-labels shown after items others is first second
  two-labels shown next (p.member m ∷ items) others is first second =
      two-apart shown next (p.member m) _ others refl is first second
  two-labels shown next (p.function f ∷ items) others is first second =
      two-apart shown next (p.function f) _ others refl is first second
  two-labels shown next (p.ctor c ∷ items) others is first second =
      two-apart shown next (p.ctor c) _ others refl is first second
  two-labels shown next (p.dtor d ∷ items) others is first second =
      two-apart shown next (p.dtor d) _ others refl is first second

  -- ---- what is added behind wrapped items

  module _ (names : List (List ℕ)) (parts : List NameId) (added : List ItemTree) where
    abbrev wrap : ItemTree → ItemTree
    wrap item = z.wrapped_item names parts item

    pub all-labelled : (shown : Access) (items : List ItemTree) → IsLabelled shown items
        → IsLabelled (z.last_access shown items) added
        → IsLabelled shown (map wrap items ++ added)
    all-labelled shown [] labels rest = rest
    all-labelled shown (p.member m ∷ items) labels rest =
        one-on shown (p.member m) _ _ (all-labelled shown items (one-off shown (p.member m) _ items labels) rest)
    all-labelled shown (p.function f ∷ items) labels rest =
        one-on shown (wrap (p.function f)) _ _ (all-labelled shown items (one-off shown (p.function f) _ items labels)
        rest)
    all-labelled shown (p.ctor c ∷ items) labels rest =
        one-on shown (wrap (p.ctor c)) _ _ (all-labelled shown items (one-off shown (p.ctor c) _ items labels) rest)
    all-labelled shown (p.dtor d ∷ items) labels rest =
        one-on shown (wrap (p.dtor d)) _ _ (all-labelled shown items (one-off shown (p.dtor d) _ items labels) rest)
    all-labelled shown (p.label place next ∷ []) labels rest = absurd (true≢false (sym (ap first_label labels)))
    all-labelled shown (p.label place next ∷ p.label other after ∷ items) labels rest =
        absurd (two-labels shown after items (p.label place next ∷ p.label other after ∷ items) labels refl refl)
    all-labelled shown (p.label place next ∷ p.member m ∷ items) labels rest =
        let opens = label-off shown next place (p.member m) _ items refl labels in
        label-on shown next place (p.member m) _ _ opens.0 opens.1 (all-labelled next items opens.2 rest)
    all-labelled shown (p.label place next ∷ p.function f ∷ items) labels rest =
        let opens = label-off shown next place (p.function f) _ items refl labels in
        label-on shown next place (wrap (p.function f)) _ _ opens.0 opens.1 (all-labelled next items opens.2 rest)
    all-labelled shown (p.label place next ∷ p.ctor c ∷ items) labels rest =
        let opens = label-off shown next place (p.ctor c) _ items refl labels in
        label-on shown next place (wrap (p.ctor c)) _ _ opens.0 opens.1 (all-labelled next items opens.2 rest)
    all-labelled shown (p.label place next ∷ p.dtor d ∷ items) labels rest =
        let opens = label-off shown next place (p.dtor d) _ items refl labels in
        label-on shown next place (wrap (p.dtor d)) _ _ opens.0 opens.1 (all-labelled next items opens.2 rest)

  -- ---- public members and functions

  functions-labelled : (fs : List FunctionTree) → IsLabelled access_of.Public (map p.function fs)
  functions-labelled [] = refl
  functions-labelled (f ∷ fs) = ap (λ x. p.function f ∷ x) (functions-labelled fs)

  public-labelled : (ms : List Member) (fs : List FunctionTree)
      → IsLabelled access_of.Public (map p.member ms ++ map p.function fs)
  public-labelled [] fs = functions-labelled fs
  public-labelled (m ∷ ms) fs = ap (λ x. p.member m ∷ x) (public-labelled ms fs)

  is-public : (shown : Access) → same_access shown access_of.Public ≡ true → shown ≡ access_of.Public
  is-public access_of.Public e = refl
  is-public access_of.Protected e = absurd (true≢false (sym e))
  is-public access_of.Private e = absurd (true≢false (sym e))

  -- with the label that opens them, where there is a member
  behind-label : (shown : Access) → same_access shown access_of.Public ≡ false
      → (front ms : List Member) (m : Member) (fs : List FunctionTree)
      → IsLabelled shown (p.label at access_of.Public ∷ (map p.member (front ++ m ∷ ms) ++ map p.function fs))
  behind-label shown other [] ms m fs =
      label-on shown access_of.Public at (p.member m) _ _ other refl (public-labelled ms fs)
  behind-label shown other (x ∷ front) ms m fs =
      label-on shown access_of.Public at (p.member x) _ _ other refl (public-labelled (front ++ m ∷ ms) fs)

  pub opened-labelled : (shown : Access) (front ms : List Member) (m : Member) (fs : List FunctionTree)
      → IsLabelled shown (z.opening at shown ++ (map p.member (front ++ m ∷ ms) ++ map p.function fs))
  opened-labelled shown front ms m fs = by (same_access shown access_of.Public) refl
    where
      by : (b : Bool) → same_access shown access_of.Public ≡ b
          → IsLabelled shown ((if b then [] else p.label at access_of.Public ∷ [])
          ++ (map p.member (front ++ m ∷ ms) ++ map p.function fs))
      by true e =
          subst (λ a. IsLabelled a (map p.member (front ++ m ∷ ms) ++ map p.function fs)) (sym (is-public shown e))
          (public-labelled (front ++ m ∷ ms) fs)
      by false e = behind-label shown e front ms m fs
