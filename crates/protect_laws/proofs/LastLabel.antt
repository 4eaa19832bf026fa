-- A label at the end of a class is gone in its normal form.
use Rattle.std.proofs.Common.{◌≡◌, refl, ap, ◌∙◌, Bool, true, false, ◌||◌, if◌then◌else◌, List, [], ◌∷◌, ◌++◌, map}
use Rattle.std.specs.List.{list_any, flat_map}
use Rattle.std.proofs.lemmas.List.{append-nil, append_assoc, map-append}
use Rattle.std.proofs.lemmas.Grind.{flat_map-append}
use Rattle.agxx_base.specs.declared.ids.NameId.{NameId}
use Rattle.agxx_base.specs.declared.place.Place.{Place}
use Rattle.cxx_tree.specs.declared.node.Placed.{Placed}
use Rattle.cxx_tree.specs.declared.program.Access.{Access}
use Rattle.cxx_tree.specs.declared.program.Access.TheVariants as access_of
use Rattle.cxx_tree.specs.ProgramTree as p
use Rattle.cxx_tree.specs.ProgramTree.{ItemTree, ClassTree}
use Rattle.cxx_normal.specs.Labels.{same_access, first_access, accesses, labelled}
use Rattle.cxx_normal.specs.Completion.{is_ctor, is_dtor, made_ctor, made_dtor, made}
use Rattle.cxx_normal.specs.Initialisers as i
use Rattle.cxx_normal.specs.Normal.{rebuilt_class}
use Rattle.protect.specs.Protected.{opening}

abbrev last : Place → List ItemTree
last at = p.label at access_of.Public ∷ []

any-last : (test : ItemTree → Bool) (at : Place) → test (p.label at access_of.Public) ≡ false → (items : List ItemTree)
    → list_any test (items ++ last at) ≡ list_any test items
any-last test at none [] = rw none refl
any-last test at none (item ∷ items) = ap (λ b. test item || b) (any-last test at none items)

-- the accesses of items before others that have the same
accesses-before : (ys zs : List ItemTree) → ((a : Access) → accesses a ys ≡ accesses a zs)
    → (a : Access) (xs : List ItemTree) → accesses a (xs ++ ys) ≡ accesses a (xs ++ zs)
accesses-before ys zs same a [] = same a
accesses-before ys zs same a (p.label at next ∷ xs) = accesses-before ys zs same next xs
accesses-before ys zs same a (p.member m ∷ xs) = ap (λ x. (a, p.member m) ∷ x) (accesses-before ys zs same a xs)
accesses-before ys zs same a (p.function f ∷ xs) = ap (λ x. (a, p.function f) ∷ x) (accesses-before ys zs same a xs)
accesses-before ys zs same a (p.ctor c ∷ xs) = ap (λ x. (a, p.ctor c) ∷ x) (accesses-before ys zs same a xs)
accesses-before ys zs same a (p.dtor d ∷ xs) = ap (λ x. (a, p.dtor d) ∷ x) (accesses-before ys zs same a xs)

-- what is made for a class begins with a label
made-any : (name : Placed NameId) (ctor dtor : Bool) (a b : Access)
    → accesses a (made_ctor name ctor ++ made_dtor name dtor) ≡ accesses b (made_ctor name ctor ++ made_dtor name dtor)
made-any name true true a b = refl
made-any name true false a b = refl
made-any name false true a b = refl
made-any name false false a b = refl

module _ (c : ClassTree) (at : Place) where
  abbrev members : List NameId
  members = flat_map i.members_in c.items

  abbrev longer : ClassTree
  longer = record c { items = c.items ++ last at }

  abbrev assigned : List ItemTree
  assigned = map (i.assigning_item c.base members) c.items

  members-last : flat_map i.members_in (c.items ++ last at) ≡ members
  members-last = flat_map-append i.members_in c.items (last at) ∙ append-nil members

  assigned-last : map (i.assigning_item c.base (flat_map i.members_in (c.items ++ last at))) (c.items ++ last at)
      ≡ assigned ++ last at
  assigned-last =
      ap (λ ms. map (i.assigning_item c.base ms) (c.items ++ last at)) members-last
      ∙ map-append (i.assigning_item c.base members) c.items (last at)

  made-last : made c.name (assigned ++ last at) ≡ made c.name assigned
  made-last = rw (any-last is_ctor at refl assigned, any-last is_dtor at refl assigned) refl

  accesses-last : (a : Access) → accesses a ((assigned ++ last at) ++ made c.name (assigned ++ last at))
      ≡ accesses a (assigned ++ made c.name assigned)
  accesses-last a =
      ap (accesses a) (ap (λ x. (assigned ++ last at) ++ x) made-last
      ∙ append_assoc assigned (last at) (made c.name assigned))
      ∙ accesses-before (last at ++ made c.name assigned) (made c.name assigned)
      (λ b. made-any c.name (list_any is_ctor assigned) (list_any is_dtor assigned) access_of.Public b) a assigned

  rebuilt-last : rebuilt_class longer ≡ rebuilt_class c
  rebuilt-last =
      ap (λ items. record c {
        items = labelled c.at (first_access c.word)
            (accesses (first_access c.word) (items ++ made c.name items));
      }) assigned-last
      ∙ ap (λ x. record c { items = labelled c.at (first_access c.word) x }) (accesses-last (first_access c.word))

-- with such a label, or without
pub rebuilt-opening : (c : ClassTree) (at : Place) (shown : Access)
    → rebuilt_class (record c { items = c.items ++ opening at shown }) ≡ rebuilt_class c
rebuilt-opening c at shown = by (same_access shown access_of.Public)
  where
    by : (b : Bool) → rebuilt_class (record c {
      items = c.items
          ++ (if b then [] else p.label at access_of.Public ∷ []);
    }) ≡ rebuilt_class c
    by true = ap (λ items. rebuilt_class (record c { items = items })) (append-nil c.items)
    by false = rebuilt-last c at
