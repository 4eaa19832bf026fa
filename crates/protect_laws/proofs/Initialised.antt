-- Constructors whose initialisers are those of the normal form.
use Rattle.std.proofs.Common.{◌≡◌, ◌⊎◌, inl, inr, ℕ, refl, sym, ap, ◌∙◌, arith, Bool, true, false, true≢false, not, ◌&&◌, ◌||◌, if◌then◌else◌, nat_eq, List, [], ◌∷◌, ◌++◌, map, Option, slice_get}
use Rattle.std.specs.List.{filter, list_any}
use Rattle.std.specs.Option.{unwrap_or}
use Rattle.std.proofs.lemmas.List.Folds.{list_any-append}
use Rattle.agxx_base.specs.declared.ids.NameId.{NameId}
use Rattle.cxx_tree.specs.declared.node.Placed.{Placed}
use Rattle.cxx_tree.specs.Limits.{Every}
use Rattle.cxx_tree.specs.StmtTree.{BlockTree, braces}
use Rattle.cxx_tree.specs.ProgramTree as p
use Rattle.cxx_tree.specs.ProgramTree.{InitTree, CtorTree, ItemTree}
use Rattle.cxx_distinct.specs.NamesIn as n
use Rattle.cxx_normal.specs.Initialisers.{names, names_base, names_member, is_one, same_name, is_meant, are_meant, assignments_of, assignment_if, assignments_for, block_after, ctor_assigning, assigning_ctor, assigning_item}
use Rattle.cxx_normal.proofs.Lists.{flat_map-nil}
use Rattle.protect.specs.Protected as z
use Rattle.protect_laws.specs.Strip.{begins_generated, is_generated}
use Rattle.protect_laws.proofs.StripStmts.{NotGenerated, front, back}

no-more : (b : BlockTree) → block_after [] b ≡ b
no-more (braces at stmts) = refl

module _ (base : Option (Placed NameId)) where
  abbrev pub IsBase : InitTree → Type 0
  IsBase i = names_base base i ≡ true

  filtered : (is : List InitTree) → Every IsBase (filter (names_base base) is)
  filtered [] = tt
  filtered (i ∷ is) = by (names_base base i) refl (filtered is)
    where
      by : (b : Bool) → names_base base i ≡ b → Every IsBase (filter (names_base base) is)
          → Every IsBase (if b then i ∷ filter (names_base base) is else filter (names_base base) is)
      by true e rest = (e, rest)
      by false e rest = rest

  all-kept : (is : List InitTree) → Every IsBase is → filter (names_base base) is ≡ is
  all-kept [] all = refl
  all-kept (i ∷ is) all = rw (all.0) (ap (λ rest. i ∷ rest) (all-kept is all.1))

  one-not : (id : NameId) (i : InitTree) → IsBase i → assignment_if base id i ≡ []
  one-not id i is = rw is (by (names id i.name))
    where
      by : (b : Bool) → (if b && false then assignments_of i.name i.arguments else []) ≡ []
      by true = refl
      by false = refl

  none-assigned : (is : List InitTree) → Every IsBase is → (id : NameId) → assignments_for base is id ≡ []
  none-assigned [] all id = refl
  none-assigned (i ∷ is) all id = rw (one-not id i all.0, none-assigned is all.1 id) refl

  -- ---- initialisers that stay

  module _ (members : List NameId) where
    abbrev either : CtorTree → Bool → CtorTree
    either c meant = if meant then ctor_assigning base members c else c

    of-base : (c : CtorTree) → Every IsBase c.inits → (meant : Bool) → either c meant ≡ c
    of-base c all true =
        rw (
          all-kept c.inits all,
          flat_map-nil (assignments_for base c.inits) (none-assigned c.inits all) members,
          no-more c.body,
        ) refl
    of-base c all false = refl

    -- a constructor's initialisers are the base's, or are left for another reason
    abbrev pub IsDone : ItemTree → Type 0
    IsDone (p.label at access) = Unit {0}
    IsDone (p.member m) = Unit {0}
    IsDone (p.function f) = Unit {0}
    IsDone (p.ctor c) = (are_meant base members c.inits ≡ false) ⊎ Every IsBase c.inits
    IsDone (p.dtor d) = Unit {0}

    pub assigned-done : (item : ItemTree) → IsDone (assigning_item base members item)
    assigned-done (p.label at access) = tt
    assigned-done (p.member m) = tt
    assigned-done (p.function f) = tt
    assigned-done (p.ctor c) = by (are_meant base members c.inits) refl
      where
        by : (b : Bool) → are_meant base members c.inits ≡ b → IsDone (p.ctor (either c b))
        by true e = inr (filtered c.inits)
        by false e = inl e
    assigned-done (p.dtor d) = tt

    ctor-stays : (c : CtorTree) → IsDone (p.ctor c) → assigning_ctor base members c ≡ c
    ctor-stays c (inl left) = ap (either c) left
    ctor-stays c (inr all) = of-base c all (are_meant base members c.inits)

    item-stays : (item : ItemTree) → IsDone item → assigning_item base members item ≡ item
    item-stays (p.label at access) done = refl
    item-stays (p.member m) done = refl
    item-stays (p.function f) done = refl
    item-stays (p.ctor c) done = ap p.ctor (ctor-stays c done)
    item-stays (p.dtor d) done = refl

    pub items-stay : (items : List ItemTree) → Every IsDone items → map (assigning_item base members) items ≡ items
    items-stay [] done = refl
    items-stay (item ∷ items) done = rw (item-stays item done.0, items-stay items done.1) refl

-- ---- members that are generated

same-number : (k j : ℕ) → nat_eq k j ≡ true → k ≡ j
same-number k j e = grind arith

or-false : (b : Bool) → (b || false) ≡ b
or-false true = refl
or-false false = refl

module _ (texts : List (List ℕ)) (more : List NameId) (generated : Every (λ id. is_generated texts id ≡ true) more)
  where
    abbrev Own : InitTree → Type 0
    Own i = is_generated texts i.name.item ≡ false

    abbrev text_at : ℕ → List ℕ
    text_at k = unwrap_or (slice_get texts k) []

    apart : (id name : NameId) → is_generated texts id ≡ true → is_generated texts name ≡ false → nat_eq id.0 name.0
        ≡ false
    apart id name one own = by (nat_eq id.0 name.0) refl
      where
        by : (b : Bool) → nat_eq id.0 name.0 ≡ b → b ≡ false
        by true e =
            absurd (true≢false (sym one ∙ ap (λ k. begins_generated (text_at k)) (same-number id.0 name.0 e) ∙ own))
        by false e = refl

    none-named : (ids : List NameId) → Every (λ id. is_generated texts id ≡ true) ids → (name : Placed NameId)
        → is_generated texts name.item ≡ false
        → list_any (λ id. names id name) ids ≡ false
    none-named [] all name own = refl
    none-named (id ∷ ids) all name own = rw (apart id name.item all.0 own) (none-named ids all.1 name own)

    module _ (base : Option (Placed NameId)) (members : List NameId) where
      member-named : (i : InitTree) → Own i → names_member (members ++ more) i ≡ names_member members i
      member-named i own =
          list_any-append (λ id. names id i.name) members more
          ∙ ap (λ b. names_member members i || b) (none-named more generated i.name own)
          ∙ or-false (names_member members i)

      still-meant : (is : List InitTree) → Every Own is
          → are_meant base (members ++ more) is ≡ are_meant base members is
      still-meant [] own = refl
      still-meant (i ∷ is) own =
          ap (λ b. (names_base base i || (b && is_one i.arguments)) &&
          (not (list_any (same_name i) is) && are_meant base (members ++ more) is)) (member-named i own.0)
          ∙ ap (λ b. is_meant base members i && (not (list_any (same_name i) is) && b)) (still-meant is own.1)

      inits-own : (is : List InitTree) → NotGenerated texts (n.names_in_each n.names_in_init is) → Every Own is
      inits-own [] own = tt
      inits-own (i ∷ is) own = (own.0, inits-own is (back texts (n.names_in_init i) _ own))

      -- a wrapped item stays where members are added
      wrapped-done : (parts : List NameId) (item : ItemTree) → NotGenerated texts (n.names_in_item item)
          → IsDone base members item → IsDone base (members ++ more) (z.wrapped_item texts parts item)
      wrapped-done parts (p.label at access) own done = tt
      wrapped-done parts (p.member m) own done = tt
      wrapped-done parts (p.function f) own done = tt
      wrapped-done parts (p.ctor c) own (inl left) =
          let of_inits = back texts (n.names_in_params c.params) _ own.1 in
          let own = inits-own c.inits (front texts (n.names_in_each n.names_in_init c.inits) _ of_inits) in
          inl (still-meant c.inits own ∙ left)
      wrapped-done parts (p.ctor c) own (inr all) = inr all
      wrapped-done parts (p.dtor d) own done = tt

      pub all-done : (parts : List NameId) (items : List ItemTree)
          → NotGenerated texts (n.names_in_each n.names_in_item items) → Every (IsDone base members) items
          → Every (IsDone base (members ++ more)) (map (z.wrapped_item texts parts) items)
      all-done parts [] own done = tt
      all-done parts (item ∷ items) own done = (
        wrapped-done parts item (front texts (n.names_in_item item) _ own) done.0,
        all-done parts items
            (back texts (n.names_in_item item) _ own) done.1,
      )
