-- Items put in order are those that get their labels.
use Rattle.std.proofs.Common.{◌≡◌, ℕ, refl, ap, sym, ◌∙◌, Bool, true, false, if◌then◌else◌, Option, List, [], ◌∷◌, ◌++◌, map}
use Rattle.std.specs.List.{list_any, flat_map}
use Rattle.std.proofs.lemmas.List.{append-nil}
use Rattle.agxx_base.specs.declared.place.Place.{Place}
use Rattle.agxx_base.specs.declared.ids.NameId.{NameId}
use Rattle.cxx_tree.specs.declared.node.Placed.{Placed}
use Rattle.cxx_tree.specs.declared.program.Access.{Access}
use Rattle.cxx_tree.specs.Limits.{Every}
use Rattle.cxx_tree.specs.ProgramTree.{ItemTree, label, member, function, ctor, dtor, ClassTree}
use Rattle.cxx_normal.specs.Numbers as n
use Rattle.cxx_normal.specs.Gives.{behind}
use Rattle.cxx_normal.specs.Labels.{same_access, first_access, accesses, labelled_item, labelled}
use Rattle.cxx_normal.specs.Listing.{ListingTree, empty_listing, put, put_numbered, put_each, put_all}
use Rattle.cxx_normal.specs.Completion.{is_ctor, is_dtor, made_ctor, made_dtor, made}
use Rattle.cxx_normal.specs.Initialisers.{members_in, assigning_item}
use Rattle.cxx_normal.specs.Normal.{rebuilt_class}
use Rattle.cxx_normal.proofs.Lists.{IsStill}
use Rattle.cxx_normal.proofs.Loops.{behind-behind}

pub all_append : (l : ListingTree) (xs ys : List ItemTree) → put_all l (xs ++ ys) ≡ put_all (put_all l xs) ys
all_append l [] ys = refl
all_append l (x ∷ xs) ys = all_append (put l x) xs ys

each_append : (w : ListingTree × ℕ) (xs ys : List ItemTree) → put_each w (xs ++ ys) ≡ put_each (put_each w xs) ys
each_append w [] ys = refl
each_append w (x ∷ xs) ys = each_append (put_numbered w x) xs ys

each_still : (l : ListingTree) (k : ℕ) (xs : List ItemTree) → Every (IsStill n.number_item) xs → put_each (l, k) xs ≡ (put_all l xs, k)
each_still l k [] still = refl
each_still l k (x ∷ xs) still = ap (λ (w : ItemTree × ℕ). put_each (put l w.0, w.1) xs) (still.0 k) ∙ each_still (put l x) k xs still.1

still-made : (name : Placed NameId) (has_ctor has_dtor : Bool) → Every (IsStill n.number_item) (made_ctor name has_ctor ++ made_dtor name has_dtor)
still-made name true true = tt
still-made name true false = ((λ k. refl), ((λ k. refl), tt))
still-made name false true = ((λ k. refl), ((λ k. refl), tt))
still-made name false false = ((λ k. refl), ((λ k. refl), ((λ k. refl), ((λ k. refl), tt))))

abbrev outcome : ListingTree × ℕ → List ItemTree × ℕ
outcome w = (w.0.items, w.1)

-- an item behind others, with its label
one-put : (at : Place) (shown access : Access) (items : List ItemTree) (item : ItemTree) (rest : List ItemTree) (k : ℕ) → behind (items ++ labelled_item at shown access (n.number_item item k).0 []) (n.number_each n.number_item rest (n.number_item item k).1) ≡ behind items (n.number_each n.number_item (labelled_item at shown access item rest) k)
one-put at shown access items item rest k = by (same_access shown access)
  where
    by : (same : Bool) → behind (items ++ (if same then (n.number_item item k).0 ∷ [] else label at access ∷ (n.number_item item k).0 ∷ [])) (n.number_each n.number_item rest (n.number_item item k).1) ≡ behind items (n.number_each n.number_item (if same then item ∷ rest else label at access ∷ item ∷ rest) k)
    by true = sym (behind-behind items ((n.number_item item k).0 ∷ []) (n.number_each n.number_item rest (n.number_item item k).1))
    by false = sym (behind-behind items (label at access ∷ (n.number_item item k).0 ∷ []) (n.number_each n.number_item rest (n.number_item item k).1))

items-put : (l : ListingTree) (k : ℕ) (items : List ItemTree) → outcome (put_each (l, k) items) ≡ behind l.items (n.number_each n.number_item (labelled l.at l.shown (accesses l.access items)) k)
items-put l k [] = rw (append-nil l.items)
items-put l k (label place next ∷ rest) = items-put (record l { access = next }) k rest
items-put l k (member m ∷ rest) =
    items-put (put l (member m)) k rest ∙ one-put l.at l.shown l.access l.items (member m) (labelled l.at l.access (accesses l.access rest)) k
items-put l k (function f ∷ rest) =
    let w = n.number_item (function f) k in
    items-put (put l w.0) w.1 rest ∙ one-put l.at l.shown l.access l.items (function f) (labelled l.at l.access (accesses l.access rest)) k
items-put l k (ctor c ∷ rest) =
    let w = n.number_item (ctor c) k in
    items-put (put l w.0) w.1 rest ∙ one-put l.at l.shown l.access l.items (ctor c) (labelled l.at l.access (accesses l.access rest)) k
items-put l k (dtor d ∷ rest) =
    let w = n.number_item (dtor d) k in
    items-put (put l w.0) w.1 rest ∙ one-put l.at l.shown l.access l.items (dtor d) (labelled l.at l.access (accesses l.access rest)) k

ctor-assigned : (base : Option (Placed NameId)) (members : List NameId) (i : ItemTree) → is_ctor (assigning_item base members i) ≡ is_ctor i
ctor-assigned base members (label at access) = refl
ctor-assigned base members (member m) = refl
ctor-assigned base members (function f) = refl
ctor-assigned base members (ctor c) = refl
ctor-assigned base members (dtor d) = refl

dtor-assigned : (base : Option (Placed NameId)) (members : List NameId) (i : ItemTree) → is_dtor (assigning_item base members i) ≡ is_dtor i
dtor-assigned base members (label at access) = refl
dtor-assigned base members (member m) = refl
dtor-assigned base members (function f) = refl
dtor-assigned base members (ctor c) = refl
dtor-assigned base members (dtor d) = refl

any-map : {A : Type 0} (test : A → Bool) (rule : A → A) → ((x : A) → test (rule x) ≡ test x) → (xs : List A) → list_any test (map rule xs) ≡ list_any test xs
any-map test rule same [] = refl
any-map test rule same (x ∷ xs) = rw (same x, any-map test rule same xs)

module _ (c : ClassTree) where
  abbrev assigned : List ItemTree
  assigned = map (assigning_item c.base (flat_map members_in c.items)) c.items

  abbrev start : ListingTree
  start = empty_listing c.at (first_access c.word)

  same-made : made c.name assigned ≡ made c.name c.items
  same-made =
      let rule = assigning_item c.base (flat_map members_in c.items) in
      rw (any-map is_ctor rule (ctor-assigned c.base (flat_map members_in c.items)) c.items, any-map is_dtor rule (dtor-assigned c.base (flat_map members_in c.items)) c.items)

  -- what the code makes of a class's items
  pub class-put : (k : ℕ) (put_items last : ListingTree) (next : ℕ) → (put_items, next) ≡ put_each (start, k) assigned → last ≡ put_all put_items (made c.name c.items) → (last.items ≡ (n.number_each n.number_item (rebuilt_class c).items k).0) × (next ≡ (n.number_each n.number_item (rebuilt_class c).items k).1)
  class-put k put_items last next one other =
      let whole = assigned ++ made c.name assigned in
      let all : outcome (put_each (start, k) whole) ≡ n.number_each n.number_item (rebuilt_class c).items k = items-put start k whole in
      let split : outcome (put_each (start, k) whole) ≡ (last.items, next) = ap outcome (each_append (start, k) assigned (made c.name assigned) ∙ (ap (λ w. put_each w (made c.name assigned)) (sym one) ∙ (each_still put_items next (made c.name assigned) (still-made c.name (list_any is_ctor assigned) (list_any is_dtor assigned)) ∙ (ap (λ made_items. (put_all put_items made_items, next)) same-made ∙ ap (λ l. (l, next)) (sym other))))) in
      (sym (ap (λ w. w.0) split) ∙ ap (λ w. w.0) all, sym (ap (λ w. w.1) split) ∙ ap (λ w. w.1) all)
