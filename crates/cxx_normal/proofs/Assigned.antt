-- Member initialisers that were made assignments stay so.
use Rattle.std.proofs.Common.{◌≡◌, ℕ, refl, ap, ◌∙◌, Bool, true, false, ◌&&◌, if◌then◌else◌, List, [], ◌∷◌, Option, Some, None}
use Rattle.std.specs.List.{filter}
use Rattle.agxx_base.specs.declared.ids.NameId.{NameId}
use Rattle.cxx_tree.specs.declared.node.Placed.{Placed}
use Rattle.cxx_tree.specs.Limits.{Every}
use Rattle.cxx_tree.specs.ExprTree as e
use Rattle.cxx_tree.specs.StmtTree.{BlockTree, braces}
use Rattle.cxx_tree.specs.ProgramTree.{InitTree, CtorTree, ItemTree, label, member, function, ctor, dtor}
use Rattle.cxx_normal.specs.Numbers as n
use Rattle.cxx_normal.specs.Completion.{empty_ctor}
use Rattle.cxx_normal.specs.Initialisers.{names, names_base, is_one, is_meant, same_name, are_meant, assignments_of, assignment_if, assignments_for, block_after, ctor_assigning, assigning_ctor, assigning_item, members_in}
use Rattle.cxx_normal.proofs.Lists.{flat_map-nil, list_any-numbered}
use Rattle.cxx_normal.proofs.Settled.{IsSettled}

is_one-numbered : (ts : e.ExprTrees) (k : ℕ) → is_one (n.number_exprs ts k).0 ≡ is_one ts
is_one-numbered e.no_exprs k = refl
is_one-numbered (e.more_exprs first e.no_exprs) k = refl
is_one-numbered (e.more_exprs first (e.more_exprs second rest)) k = refl

block_after-nil : (b : BlockTree) → block_after [] b ≡ b
block_after-nil (braces at stmts) = refl

either : {A : Type 0} (test : Bool) (x y : A) → x ≡ y → (if test then x else y) ≡ y
either true x y e = e
either false x y e = refl

module _ (base : Option (Placed NameId)) (members : List NameId) where
  base-numbered : (i : InitTree) (k : ℕ) → names_base base (n.number_init i k).0 ≡ names_base base i
  base-numbered i k = by base
    where
      by : (b : Option (Placed NameId)) → names_base b (n.number_init i k).0 ≡ names_base b i
      by None = refl
      by (Some b) = refl

  one-meant : (i : InitTree) (k : ℕ) → is_meant base members (n.number_init i k).0 ≡ is_meant base members i
  one-meant i k = rw (base-numbered i k, is_one-numbered i.arguments k)

  meant-numbered : (is : List InitTree) (k : ℕ) → are_meant base members (n.number_each n.number_init is k).0 ≡ are_meant base members is
  meant-numbered [] k = refl
  meant-numbered (i ∷ is) k =
      let k1 = (n.number_init i k).1 in
      rw (one-meant i k, list_any-numbered (same_name i) n.number_init (λ x m. refl) is k1, meant-numbered is k1)

  abbrev IsBase : InitTree → Type 0
  IsBase i = names_base base i ≡ true

  -- the initialisers of the base
  base-alone : (is : List InitTree) (k : ℕ) → Every IsBase (n.number_each n.number_init (filter (names_base base) is) k).0
  base-alone [] k = tt
  base-alone (i ∷ is) k = by (names_base base i) refl (base-alone is)
    where
      by : (b : Bool) → names_base base i ≡ b → ((m : ℕ) → Every IsBase (n.number_each n.number_init (filter (names_base base) is) m).0) → Every IsBase (n.number_each n.number_init (filter (names_base base) (i ∷ is)) k).0
      by true q rest = rw q (base-numbered i k ∙ q, rest (n.number_init i k).1)
      by false q rest = rw q (rest k)

  filter-base : (is : List InitTree) → Every IsBase is → filter (names_base base) is ≡ is
  filter-base [] all = refl
  filter-base (i ∷ is) all = rw all.0 (ap (λ rest. i ∷ rest) (filter-base is all.1))

  not-assigned : (id : NameId) (i : InitTree) → IsBase i → assignment_if base id i ≡ []
  not-assigned id i is = rw is (by (names id i.name))
    where
      by : (b : Bool) → (if b && false then assignments_of i.name i.arguments else []) ≡ []
      by true = refl
      by false = refl

  none-assigned : (is : List InitTree) → Every IsBase is → (id : NameId) → assignments_for base is id ≡ []
  none-assigned [] all id = refl
  none-assigned (i ∷ is) all id = rw (not-assigned id i all.0, none-assigned is all.1 id)

  -- a constructor whose initialisers are the base's
  already : (c : CtorTree) → Every IsBase c.inits → assigning_ctor base members c ≡ c
  already c all =
      either (are_meant base members c.inits) (ctor_assigning base members c) c (rw (filter-base c.inits all, flat_map-nil (assignments_for base c.inits) (none-assigned c.inits all) members, block_after-nil c.body))

  ctor-assigned : (c : CtorTree) → IsSettled n.number_ctor (assigning_ctor base members) (assigning_ctor base members c)
  ctor-assigned c k = by (are_meant base members c.inits) refl
    where
      by : (b : Bool) → are_meant base members c.inits ≡ b → assigning_ctor base members (n.number_ctor (assigning_ctor base members c) k).0 ≡ (n.number_ctor (assigning_ctor base members c) k).0
      by true q = rw q (already (n.number_ctor (ctor_assigning base members c) k).0 (base-alone c.inits k))
      by false q = rw (q, meant-numbered c.inits k, q)

  pub item-assigned : (i : ItemTree) → IsSettled n.number_item (assigning_item base members) (assigning_item base members i)
  item-assigned (label at access) k = refl
  item-assigned (member m) k = refl
  item-assigned (function f) k = refl
  item-assigned (ctor c) k = ap ctor (ctor-assigned c k)
  item-assigned (dtor d) k = refl

  pub empty-assigned : (name : Placed NameId) → IsSettled n.number_item (assigning_item base members) (ctor (empty_ctor name))
  empty-assigned name k = ap ctor (already (empty_ctor name) tt)

  pub members-assigned : (i : ItemTree) → members_in (assigning_item base members i) ≡ members_in i
  members-assigned (label at access) = refl
  members-assigned (member m) = refl
  members-assigned (function f) = refl
  members-assigned (ctor c) = refl
  members-assigned (dtor d) = refl

pub members-numbered : (i : ItemTree) (k : ℕ) → members_in (n.number_item i k).0 ≡ members_in i
members-numbered (label at access) k = refl
members-numbered (member m) k = refl
members-numbered (function f) k = refl
members-numbered (ctor c) k = refl
members-numbered (dtor d) k = refl
