-- Labels made anew twice.
use Rattle.std.proofs.Common.{◌≡◌, ℕ, refl, ap, subst, ◌∙◌, sym, Bool, true, false, ◌||◌, List, [], ◌∷◌, ◌++◌}
use Rattle.std.specs.List.{list_any, flat_map}
use Rattle.agxx_base.specs.declared.place.Place.{Place}
use Rattle.cxx_tree.specs.declared.program.Access.{Access}
use Rattle.cxx_tree.specs.declared.program.Access.TheVariants as access_of
use Rattle.cxx_tree.specs.Limits.{Every}
use Rattle.cxx_tree.specs.ProgramTree.{ItemTree, label, member, function, ctor, dtor}
use Rattle.cxx_normal.specs.Numbers as n
use Rattle.cxx_normal.specs.Labels.{same_access, accesses, labelled_item, labelled}

same-self : (a : Access) → same_access a a ≡ true
same-self access_of.Public = refl
same-self access_of.Protected = refl
same-self access_of.Private = refl

same-equal : (a b : Access) → same_access a b ≡ true → a ≡ b
same-equal access_of.Public access_of.Public e = refl
same-equal access_of.Public access_of.Protected e = cc
same-equal access_of.Public access_of.Private e = cc
same-equal access_of.Protected access_of.Public e = cc
same-equal access_of.Protected access_of.Protected e = refl
same-equal access_of.Protected access_of.Private e = cc
same-equal access_of.Private access_of.Public e = cc
same-equal access_of.Private access_of.Protected e = cc
same-equal access_of.Private access_of.Private e = refl

abbrev pub items_from : List ItemTree → ℕ → List ItemTree
items_from items k = (n.number_each n.number_item items k).0

-- items whose labels stay as they are once they are numbered, where this access is in force
abbrev IsLabelled : Place → Access → List ItemTree → Type 0
IsLabelled at shown items = (k : ℕ) → labelled at shown (accesses shown (items_from items k)) ≡ items_from items k

-- no label, whatever its numbers are
abbrev IsPart : ItemTree → Type 0
IsPart item = (k : ℕ) (access : Access) (rest : List ItemTree) → accesses access ((n.number_item item k).0 ∷ rest) ≡ (access, (n.number_item item k).0) ∷ accesses access rest

module _ (at : Place) (item : ItemTree) (part : IsPart item) (rest : List ItemTree) where
  same-labelled : (shown : Access) → IsLabelled at shown rest → IsLabelled at shown (item ∷ rest)
  same-labelled shown labels k =
      rw (part k shown (items_from rest (n.number_item item k).1), same-self shown) (ap (λ items. (n.number_item item k).0 ∷ items) (labels (n.number_item item k).1))

  other-labelled : (shown access : Access) → same_access shown access ≡ false → IsLabelled at access rest → IsLabelled at shown (label at access ∷ item ∷ rest)
  other-labelled shown access other labels k =
      rw (part k access (items_from rest (n.number_item item k).1), other) (ap (λ items. label at access ∷ (n.number_item item k).0 ∷ items) (labels (n.number_item item k).1))

  item-labelled : (shown access : Access) → IsLabelled at access rest → IsLabelled at shown (labelled_item at shown access item rest)
  item-labelled shown access labels = by (same_access shown access) refl
    where
      by : (same : Bool) → same_access shown access ≡ same → IsLabelled at shown (labelled_item at shown access item rest)
      by true e = rw e (same-labelled shown (subst (λ a. IsLabelled at a rest) (sym (same-equal shown access e)) labels))
      by false e = rw e (other-labelled shown access e labels)

pub relabelled-twice : (at : Place) (shown current : Access) (items : List ItemTree) → IsLabelled at shown (labelled at shown (accesses current items))
relabelled-twice at shown current [] = λ k. refl
relabelled-twice at shown current (label place next ∷ rest) = relabelled-twice at shown next rest
relabelled-twice at shown current (member m ∷ rest) =
    item-labelled at (member m) (λ k a r. refl) _ shown current (relabelled-twice at current current rest)
relabelled-twice at shown current (function f ∷ rest) =
    item-labelled at (function f) (λ k a r. refl) _ shown current (relabelled-twice at current current rest)
relabelled-twice at shown current (ctor c ∷ rest) =
    item-labelled at (ctor c) (λ k a r. refl) _ shown current (relabelled-twice at current current rest)
relabelled-twice at shown current (dtor d ∷ rest) =
    item-labelled at (dtor d) (λ k a r. refl) _ shown current (relabelled-twice at current current rest)

-- items keep their access
module _ (at : Place) where
  item-access : (shown access : Access) (item : ItemTree) (rest : List ItemTree) → ((a : Access) (items : List ItemTree) → accesses a (item ∷ items) ≡ (a, item) ∷ accesses a items) → accesses shown (labelled_item at shown access item rest) ≡ (access, item) ∷ accesses access rest
  item-access shown access item rest part = by (same_access shown access) refl
    where
      by : (same : Bool) → same_access shown access ≡ same → accesses shown (labelled_item at shown access item rest) ≡ (access, item) ∷ accesses access rest
      by true e = rw e (subst (λ a. accesses shown (item ∷ rest) ≡ (a, item) ∷ accesses a rest) (same-equal shown access e) (part shown rest))
      by false e = rw e (part access rest)

  pub access-relabelled : (shown current : Access) (items : List ItemTree) → accesses shown (labelled at shown (accesses current items)) ≡ accesses current items
  access-relabelled shown current [] = refl
  access-relabelled shown current (label place next ∷ rest) = access-relabelled shown next rest
  access-relabelled shown current (member m ∷ rest) =
      item-access shown current (member m) _ (λ a r. refl) ∙ ap (λ items. (current, member m) ∷ items) (access-relabelled current current rest)
  access-relabelled shown current (function f ∷ rest) =
      item-access shown current (function f) _ (λ a r. refl) ∙ ap (λ items. (current, function f) ∷ items) (access-relabelled current current rest)
  access-relabelled shown current (ctor c ∷ rest) =
      item-access shown current (ctor c) _ (λ a r. refl) ∙ ap (λ items. (current, ctor c) ∷ items) (access-relabelled current current rest)
  access-relabelled shown current (dtor d ∷ rest) =
      item-access shown current (dtor d) _ (λ a r. refl) ∙ ap (λ items. (current, dtor d) ∷ items) (access-relabelled current current rest)

-- what a test finds among the items
module _ (test : ItemTree → Bool) (at : Place) (labels : (a : Access) (place : Place) → test (label place a) ≡ false) where
  any-item : (shown access : Access) (item : ItemTree) (rest : List ItemTree) → list_any test (labelled_item at shown access item rest) ≡ (test item || list_any test rest)
  any-item shown access item rest = by (same_access shown access) refl
    where
      by : (same : Bool) → same_access shown access ≡ same → list_any test (labelled_item at shown access item rest) ≡ (test item || list_any test rest)
      by true e = rw e
      by false e = rw (e, labels access at)

  pub any-relabelled : (shown current : Access) (items : List ItemTree) → list_any test (labelled at shown (accesses current items)) ≡ list_any test items
  any-relabelled shown current [] = refl
  any-relabelled shown current (label place next ∷ rest) = any-relabelled shown next rest ∙ rw (labels next place)
  any-relabelled shown current (member m ∷ rest) =
      any-item shown current (member m) _ ∙ ap (λ b. test (member m) || b) (any-relabelled current current rest)
  any-relabelled shown current (function f ∷ rest) =
      any-item shown current (function f) _ ∙ ap (λ b. test (function f) || b) (any-relabelled current current rest)
  any-relabelled shown current (ctor c ∷ rest) =
      any-item shown current (ctor c) _ ∙ ap (λ b. test (ctor c) || b) (any-relabelled current current rest)
  any-relabelled shown current (dtor d ∷ rest) =
      any-item shown current (dtor d) _ ∙ ap (λ b. test (dtor d) || b) (any-relabelled current current rest)

-- what is taken from the items
module _ {A : Type 0} (f : ItemTree → List A) (at : Place) (labels : (a : Access) (place : Place) → f (label place a) ≡ []) where
  from-item : (shown access : Access) (item : ItemTree) (rest : List ItemTree) → flat_map f (labelled_item at shown access item rest) ≡ f item ++ flat_map f rest
  from-item shown access item rest = by (same_access shown access) refl
    where
      by : (same : Bool) → same_access shown access ≡ same → flat_map f (labelled_item at shown access item rest) ≡ f item ++ flat_map f rest
      by true e = rw e
      by false e = rw (e, labels access at)

  pub from-relabelled : (shown current : Access) (items : List ItemTree) → flat_map f (labelled at shown (accesses current items)) ≡ flat_map f items
  from-relabelled shown current [] = refl
  from-relabelled shown current (label place next ∷ rest) = from-relabelled shown next rest ∙ rw (labels next place)
  from-relabelled shown current (member m ∷ rest) =
      from-item shown current (member m) _ ∙ ap (λ b. f (member m) ++ b) (from-relabelled current current rest)
  from-relabelled shown current (function q ∷ rest) =
      from-item shown current (function q) _ ∙ ap (λ b. f (function q) ++ b) (from-relabelled current current rest)
  from-relabelled shown current (ctor c ∷ rest) =
      from-item shown current (ctor c) _ ∙ ap (λ b. f (ctor c) ++ b) (from-relabelled current current rest)
  from-relabelled shown current (dtor d ∷ rest) =
      from-item shown current (dtor d) _ ∙ ap (λ b. f (dtor d) ++ b) (from-relabelled current current rest)

-- what holds of each item
module _ (Holds : ItemTree → Type 0) (at : Place) (labels : (a : Access) (place : Place) → Holds (label place a)) where
  every-item : (shown access : Access) (item : ItemTree) (rest : List ItemTree) → Holds item → Every Holds rest → Every Holds (labelled_item at shown access item rest)
  every-item shown access item rest one others = by (same_access shown access) refl
    where
      by : (same : Bool) → same_access shown access ≡ same → Every Holds (labelled_item at shown access item rest)
      by true e = rw e (one, others)
      by false e = rw e (labels access at, (one, others))

  pub every-relabelled : (shown current : Access) (items : List ItemTree) → Every Holds items → Every Holds (labelled at shown (accesses current items))
  every-relabelled shown current [] every = tt
  every-relabelled shown current (label place next ∷ rest) every = every-relabelled shown next rest every.1
  every-relabelled shown current (member m ∷ rest) every =
      every-item shown current (member m) _ every.0 (every-relabelled current current rest every.1)
  every-relabelled shown current (function f ∷ rest) every =
      every-item shown current (function f) _ every.0 (every-relabelled current current rest every.1)
  every-relabelled shown current (ctor c ∷ rest) every =
      every-item shown current (ctor c) _ every.0 (every-relabelled current current rest every.1)
  every-relabelled shown current (dtor d ∷ rest) every =
      every-item shown current (dtor d) _ every.0 (every-relabelled current current rest every.1)
