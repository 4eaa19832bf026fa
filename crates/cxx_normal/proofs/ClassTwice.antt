-- The rules of a class twice.
use Rattle.std.proofs.Common.{◌≡◌, ℕ, refl, ap, ◌∙◌, Bool, true, false, ◌||◌, List, [], ◌++◌, map}
use Rattle.std.specs.List.{list_any, flat_map}
use Rattle.std.proofs.lemmas.Grind.{flat_map-append}
use Rattle.std.proofs.lemmas.List.{append-nil}
use Rattle.std.proofs.lemmas.List.Folds.{list_any-append}
use Rattle.agxx_base.specs.declared.ids.NameId.{NameId}
use Rattle.cxx_tree.specs.declared.node.Placed.{Placed}
use Rattle.cxx_tree.specs.Limits.{Every}
use Rattle.cxx_tree.specs.ProgramTree.{ItemTree, label, member, function, ctor, dtor, ClassTree}
use Rattle.cxx_normal.specs.Numbers as n
use Rattle.cxx_normal.specs.Labels.{first_access, accesses, labelled}
use Rattle.cxx_normal.specs.Completion.{is_ctor, is_dtor, empty_ctor, made_ctor, made_dtor, made}
use Rattle.cxx_normal.specs.Initialisers.{members_in, assigning_item}
use Rattle.cxx_normal.specs.Normal.{rebuilt_class}
use Rattle.cxx_normal.proofs.Lists.{flat_map-map, flat_map-numbered, list_any-numbered, every-append, every-map}
use Rattle.cxx_normal.proofs.Settled.{IsSettled, map-settled}
use Rattle.cxx_normal.proofs.Relabelled.{relabelled-twice, any-relabelled, from-relabelled, every-relabelled}
use Rattle.cxx_normal.proofs.Assigned.{item-assigned, empty-assigned, members-assigned, members-numbered}

ctor-numbered : (i : ItemTree) (k : ℕ) → is_ctor (n.number_item i k).0 ≡ is_ctor i
ctor-numbered (label at access) k = refl
ctor-numbered (member m) k = refl
ctor-numbered (function f) k = refl
ctor-numbered (ctor c) k = refl
ctor-numbered (dtor d) k = refl

dtor-numbered : (i : ItemTree) (k : ℕ) → is_dtor (n.number_item i k).0 ≡ is_dtor i
dtor-numbered (label at access) k = refl
dtor-numbered (member m) k = refl
dtor-numbered (function f) k = refl
dtor-numbered (ctor c) k = refl
dtor-numbered (dtor d) k = refl

-- ---- what is made

has-ctor : (name : Placed NameId) (has has_dtor : Bool) → (has || list_any is_ctor (made_ctor name has ++ made_dtor name has_dtor)) ≡ true
has-ctor name true has_dtor = refl
has-ctor name false has_dtor = refl

has-dtor : (name : Placed NameId) (has_ctor has : Bool) → (has || list_any is_dtor (made_ctor name has_ctor ++ made_dtor name has)) ≡ true
has-dtor name has_ctor true = refl
has-dtor name true false = refl
has-dtor name false false = refl

no-members-made : (name : Placed NameId) (has_ctor has_dtor : Bool) → flat_map members_in (made_ctor name has_ctor ++ made_dtor name has_dtor) ≡ []
no-members-made name true true = refl
no-members-made name true false = refl
no-members-made name false true = refl
no-members-made name false false = refl

module _ (Holds : ItemTree → Type 0) (name : Placed NameId) where
  every-made : ((i : ItemTree) → is_ctor i ≡ false → Holds i) → Holds (ctor (empty_ctor name)) → (has_ctor has_dtor : Bool) → Every Holds (made_ctor name has_ctor ++ made_dtor name has_dtor)
  every-made others one true true = tt
  every-made others one true false = (others _ refl, (others _ refl, tt))
  every-made others one false true = (others _ refl, (one, tt))
  every-made others one false false = (others _ refl, (one, (others _ refl, (others _ refl, tt))))

module _ (c : ClassTree) (k : ℕ) where
  abbrev asked : List NameId
  asked = flat_map members_in c.items

  abbrev assigned : List ItemTree
  assigned = map (assigning_item c.base asked) c.items

  abbrev whole : List ItemTree
  whole = assigned ++ made c.name assigned

  abbrev built : List ItemTree
  built = labelled c.at (first_access c.word) (accesses (first_access c.word) whole)

  abbrev again : List ItemTree
  again = (n.number_each n.number_item built k).0

  same-members : flat_map members_in again ≡ asked
  same-members =
      flat_map-numbered members_in n.number_item members-numbered built k ∙ (from-relabelled members_in c.at (λ a place. refl) (first_access c.word) (first_access c.word) whole ∙ (flat_map-append members_in assigned (made c.name assigned) ∙ rw (no-members-made c.name (list_any is_ctor assigned) (list_any is_dtor assigned)) (append-nil _ ∙ flat_map-map members_in (assigning_item c.base asked) (members-assigned c.base asked) c.items)))

  settled-others : (i : ItemTree) → is_ctor i ≡ false → IsSettled n.number_item (assigning_item c.base asked) i
  settled-others (label at access) e m = refl
  settled-others (member x) e m = refl
  settled-others (function f) e m = refl
  settled-others (ctor x) e m = absurd (cc e)
  settled-others (dtor d) e m = refl

  settled : Every (IsSettled n.number_item (assigning_item c.base asked)) built
  settled =
      every-relabelled (IsSettled n.number_item (assigning_item c.base asked)) c.at (λ a place m. refl) (first_access c.word) (first_access c.word) whole (every-append (IsSettled n.number_item (assigning_item c.base asked)) assigned (made c.name assigned) (every-map (IsSettled n.number_item (assigning_item c.base asked)) (assigning_item c.base asked) (item-assigned c.base asked) c.items) (every-made (IsSettled n.number_item (assigning_item c.base asked)) c.name settled-others (empty-assigned c.base asked c.name) (list_any is_ctor assigned) (list_any is_dtor assigned)))

  has-both : made c.name again ≡ []
  has-both =
      let one : list_any is_ctor again ≡ true = list_any-numbered is_ctor n.number_item ctor-numbered built k ∙ (any-relabelled is_ctor c.at (λ a place. refl) (first_access c.word) (first_access c.word) whole ∙ (list_any-append is_ctor assigned (made c.name assigned) ∙ has-ctor c.name (list_any is_ctor assigned) (list_any is_dtor assigned))) in
      let other : list_any is_dtor again ≡ true = list_any-numbered is_dtor n.number_item dtor-numbered built k ∙ (any-relabelled is_dtor c.at (λ a place. refl) (first_access c.word) (first_access c.word) whole ∙ (list_any-append is_dtor assigned (made c.name assigned) ∙ has-dtor c.name (list_any is_ctor assigned) (list_any is_dtor assigned))) in
      rw (one, other)

  class-items : labelled c.at (first_access c.word) (accesses (first_access c.word) (map (assigning_item c.base (flat_map members_in again)) again ++ made c.name (map (assigning_item c.base (flat_map members_in again)) again))) ≡ again
  class-items =
      rw (same-members, map-settled n.number_item (assigning_item c.base asked) built settled k, has-both, append-nil again) (relabelled-twice c.at (first_access c.word) (first_access c.word) whole k)

pub class-rebuilt : (c : ClassTree) → IsSettled n.number_class rebuilt_class (rebuilt_class c)
class-rebuilt c k = ap (λ items. record c { items = items }) (class-items c k)
