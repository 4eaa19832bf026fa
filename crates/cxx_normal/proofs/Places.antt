-- The places of members and of their initialisers give the assignments in the order of the members.
use Rattle.std.proofs.Common.{◌≡◌, ℕ, zero, suc, ◌+◌, ◌-◌, ◌<◌, ◌≤◌, ◌⊎◌, inl, inr, Less, refl, ap, sym, ◌∙◌, Bool, true, false, not, ◌&&◌, ◌||◌, ◌==◌, if◌then◌else◌, cond, nat_eq, Option, Some, None, option_and_then, option_to_list, List, [], ◌∷◌, ◌++◌, length, slice_get, arith, add-zero, append-nil, unwrap_or, Vec, true≢false}
use Rattle.std.specs.BTreeMap.{is_at}
use Rattle.std.specs.List.{list_any, flat_map, AllByRecursion}
use Rattle.std.specs.List.Sorted.{IsStrictlySortedBy}
use Rattle.std.specs.Map.{lookup, keys_of, values_of}
use Rattle.std.specs.Ordering.{nat_cmp}
use Rattle.std.proofs.lemmas.Bool.{cases_lt}
use Rattle.std.proofs.lemmas.Bool.Decides.{nat_tests}
use Rattle.std.proofs.lemmas.List.Folds.{list_any-append}
use Rattle.std.proofs.lemmas.Map.Keys.{sorted_head, sorted_tail}
use Rattle.agxx_base.specs.declared.ids.NameId.{NameId}
use Rattle.cxx_tree.specs.declared.node.Placed.{Placed}
use Rattle.cxx_tree.specs.StmtTree.{StmtTree}
use Rattle.cxx_tree.specs.ProgramTree.{InitTree}
use Rattle.cxx_normal.specs.Initialisers.{names_base, same_name, is_meant, are_meant, assignments_of, assignments_for}
use Rattle.cxx_normal.specs.Places.{places_from, places_of, items_of, is_for, init_from, init_of, init_at, order_of, assignment_of_any, assignment_at}
use Rattle.cxx_normal.proofs.Lists.{flat_map-flat_map}

at-place : (place key : ℕ) → is_at (nat_cmp place) key ≡ nat_eq place key
at-place place key = grind (arith, nat_tests)

-- ---- places of names

pub none_is : (ids : List NameId) (number : ℕ) → not (length (places_of number ids) == 0) ≡ list_any (λ id. nat_eq id.0 number) ids
none_is ids number = by ids 0
  where
    by : (rest : List NameId) (at : ℕ) → not (length (places_from number at rest) == 0) ≡ list_any (λ id. nat_eq id.0 number) rest
    by [] at = refl
    by (first ∷ rest) at = one (nat_eq first.0 number) (by rest (suc at))
      where
        one : (same : Bool) → not (length (places_from number (suc at) rest) == 0) ≡ list_any (λ id. nat_eq id.0 number) rest → not (length (if same then at ∷ places_from number (suc at) rest else places_from number (suc at) rest) == 0) ≡ same || list_any (λ id. nat_eq id.0 number) rest
        one true h = grind (arith, nat_tests)
        one false h = h

pub places-push : (number at : ℕ) (ids : List NameId) (id : NameId) → places_from number at (ids ++ id ∷ []) ≡ places_from number at ids ++ (if nat_eq id.0 number then (at + length ids) ∷ [] else [])
places-push number at [] id = rw (add-zero) refl
places-push number at (first ∷ rest) id =
    let next = places-push number (suc at) rest id in
    let e : suc at + length rest ≡ at + length (first ∷ rest) = omega arith in
    by (nat_eq first.0 number) (next ∙ ap (λ n. places_from number (suc at) rest ++ (if nat_eq id.0 number then n ∷ [] else [])) e)
  where
    by : (same : Bool) → places_from number (suc at) (rest ++ id ∷ []) ≡ places_from number (suc at) rest ++ (if nat_eq id.0 number then (at + length (first ∷ rest)) ∷ [] else [])
        → (if same then at ∷ places_from number (suc at) (rest ++ id ∷ []) else places_from number (suc at) (rest ++ id ∷ [])) ≡ (if same then at ∷ places_from number (suc at) rest else places_from number (suc at) rest) ++ (if nat_eq id.0 number then (at + length (first ∷ rest)) ∷ [] else [])
    by true h = ap (λ xs. at ∷ xs) h
    by false h = h

abbrev pub is_named : ℕ → Option NameId → Bool
is_named number None = false
is_named number (Some id) = nat_eq id.0 number

not-before : (number at place : ℕ) (ids : List NameId) → place < at → list_any (nat_eq place) (places_from number at ids) ≡ false
not-before number at place [] h = refl
not-before number at place (first ∷ rest) h = by (nat_eq first.0 number) (not-before number (suc at) place rest (omega (arith, h)))
  where
    by : (same : Bool) → list_any (nat_eq place) (places_from number (suc at) rest) ≡ false → list_any (nat_eq place) (if same then at ∷ places_from number (suc at) rest else places_from number (suc at) rest) ≡ false
    by true r = grind (arith, nat_tests, r, h)
    by false r = r

has-from : (number at j : ℕ) (ids : List NameId) → list_any (nat_eq (at + j)) (places_from number at ids) ≡ is_named number (slice_get ids j)
has-from number at j [] = refl
has-from number at zero (first ∷ rest) = by (nat_eq first.0 number) (not-before number (suc at) (at + 0) rest (omega arith))
  where
    by : (same : Bool) → list_any (nat_eq (at + 0)) (places_from number (suc at) rest) ≡ false → list_any (nat_eq (at + 0)) (if same then at ∷ places_from number (suc at) rest else places_from number (suc at) rest) ≡ same
    by true r = grind (arith, nat_tests)
    by false r = r
has-from number at (suc j) (first ∷ rest) =
    let e : suc at + j ≡ at + suc j = omega arith in
    by (nat_eq first.0 number) (ap (λ n. list_any (nat_eq n) (places_from number (suc at) rest)) (sym e) ∙ has-from number (suc at) j rest)
  where
    by : (same : Bool) → list_any (nat_eq (at + suc j)) (places_from number (suc at) rest) ≡ is_named number (slice_get rest j) → list_any (nat_eq (at + suc j)) (if same then at ∷ places_from number (suc at) rest else places_from number (suc at) rest) ≡ is_named number (slice_get rest j)
    by true r = grind (arith, nat_tests, r)
    by false r = r

pub has-place : (number place : ℕ) (ids : List NameId) → list_any (nat_eq place) (places_of number ids) ≡ is_named number (slice_get ids place)
has-place number place ids =
    let e : 0 + place ≡ place = omega arith in
    ap (λ n. list_any (nat_eq n) (places_of number ids)) (sym e) ∙ has-from number 0 place ids

-- a table of places once one more name is told, of which it had what was held
pub table-turn : {A : Type 0} (number place : ℕ) (ids taken : List NameId) (id : NameId) (own old new : Option (Vec ℕ A)) (empty held told : Vec ℕ A) → items_of old ≡ places_of number ids → items_of own ≡ places_of id.0 ids → empty.items ≡ [] → held ≡ unwrap_or own empty
    → told.items ≡ held.items ++ place ∷ [] → new ≡ cond (is_at (nat_cmp id.0) number) (Some told) old → taken ≡ ids ++ id ∷ [] → place ≡ length ids → items_of new ≡ places_of number taken
table-turn number place ids taken id own old new empty held told h o e v p u t l =
    ap items_of (u ∙ ap (λ b. cond b (Some told) old) (at-place id.0 number)) ∙ by (nat_eq id.0 number) refl ∙ sym (ap (places_of number) t ∙ places-push number 0 ids id)
  where
    had : (q : Option (Vec ℕ _)) → (unwrap_or q empty).items ≡ items_of q
    had None = e
    had (Some v) = refl

    by : (b : Bool) → nat_eq id.0 number ≡ b → items_of (cond b (Some told) old) ≡ places_of number ids ++ (if b then (0 + length ids) ∷ [] else [])
    by true q =
        let same : id.0 ≡ number = grind (arith, nat_tests, q) in
        let n : place ≡ 0 + length ids = omega (arith, l) in
        p ∙ ap (λ (w : Vec ℕ _). w.items ++ place ∷ []) v ∙ ap (λ xs. xs ++ place ∷ []) (had own ∙ o ∙ ap (λ n. places_of n ids) same) ∙ ap (λ n. places_of number ids ++ n ∷ []) n
    by false q = h ∙ sym (append-nil (places_of number ids))

-- ---- places of initialisers

pub init-push : (base : Option (Placed NameId)) (id : NameId) (at : ℕ) (is : List InitTree) (i : InitTree) (found : Option ℕ) → init_from base id at (is ++ i ∷ []) found ≡ (if is_for base id i then Some (at + length is) else init_from base id at is found)
init-push base id at [] i found = rw (add-zero) refl
init-push base id at (first ∷ rest) i found =
    let e : suc at + length rest ≡ at + length (first ∷ rest) = omega arith in
    init-push base id (suc at) rest i (if is_for base id first then Some at else found)
    ∙ ap (λ n. if is_for base id i then Some n else init_from base id (suc at) rest (if is_for base id first then Some at else found)) e

-- what a place has once one more initialiser is told
pub init_at-push : (base : Option (Placed NameId)) (members : List NameId) (is : List InitTree) (i : InitTree) (place : ℕ) → init_at base members (is ++ i ∷ []) place ≡ (if list_any (nat_eq place) (places_of i.name.item.0 members) && not (names_base base i) then Some (length is) else init_at base members is place)
init_at-push base members is i place = rw (has-place i.name.item.0 place members) (by (slice_get members place))
  where
    by : (o : Option NameId) → option_and_then (init_of base (is ++ i ∷ [])) o ≡ (if is_named i.name.item.0 o && not (names_base base i) then Some (length is) else option_and_then (init_of base is) o)
    by None = refl
    by (Some id) = init-push base id 0 is i None ∙ ap (λ n. if is_for base id i then Some n else init_of base is id) (omega arith)

-- one more initialiser, of which the places of its name are told
pub init-told : (base : Option (Placed NameId)) (members : List NameId) (is taken : List InitTree) (i : InitTree) (place number : ℕ) (old new : Option ℕ) → names_base base i ≡ false → old ≡ init_at base members is place → taken ≡ is ++ i ∷ [] → number ≡ length is
    → new ≡ (if list_any (nat_eq place) (places_of i.name.item.0 members) then Some number else old) → new ≡ init_at base members taken place
init-told base members is taken i place number old new b h t l u =
    u ∙ by (list_any (nat_eq place) (places_of i.name.item.0 members)) ∙ ap (λ c. if list_any (nat_eq place) (places_of i.name.item.0 members) && not c then Some (length is) else init_at base members is place) (sym b)
    ∙ sym (ap (λ xs. init_at base members xs place) t ∙ init_at-push base members is i place)
  where
    by : (c : Bool) → (if c then Some number else old) ≡ (if c && true then Some (length is) else init_at base members is place)
    by true = ap Some l
    by false = h

-- one more initialiser, of the base
pub init-kept : (base : Option (Placed NameId)) (members : List NameId) (is taken : List InitTree) (i : InitTree) (place : ℕ) (old : Option ℕ) → names_base base i ≡ true → old ≡ init_at base members is place → taken ≡ is ++ i ∷ [] → old ≡ init_at base members taken place
init-kept base members is taken i place old b h t =
    h ∙ by (list_any (nat_eq place) (places_of i.name.item.0 members)) ∙ ap (λ c. if list_any (nat_eq place) (places_of i.name.item.0 members) && not c then Some (length is) else init_at base members is place) (sym b)
    ∙ sym (ap (λ xs. init_at base members xs place) t ∙ init_at-push base members is i place)
  where
    by : (c : Bool) → init_at base members is place ≡ (if c && false then Some (length is) else init_at base members is place)
    by true = refl
    by false = refl

-- ---- a table by places, in its order

abbrev Entries : Type 0
Entries = List (ℕ × ℕ)

nat_eq-flips : (a b : ℕ) → nat_eq a b ≡ nat_eq b a
nat_eq-flips a b = grind (arith, nat_tests)

-- one more place gets the number
pub put-turn : (number place x : ℕ) (before now : List ℕ) (old mid new : Option ℕ) → now ≡ before ++ x ∷ [] → mid ≡ (if list_any (nat_eq place) before then Some number else old) → new ≡ cond (is_at (nat_cmp x) place) (Some number) mid
    → new ≡ (if list_any (nat_eq place) now then Some number else old)
put-turn number place x before now old mid new i h u =
    u ∙ ap (λ b. cond b (Some number) mid) (at-place x place ∙ nat_eq-flips x place) ∙ ap (λ o. cond (nat_eq place x) (Some number) o) h ∙ by (nat_eq place x) (list_any (nat_eq place) before)
    ∙ sym (ap (λ b. if b then Some number else old) (ap (list_any (nat_eq place)) i ∙ list_any-append (nat_eq place) before (x ∷ [])))
  where
    by : (a b : Bool) → cond a (Some number) (if b then Some number else old) ≡ (if b || (a || false) then Some number else old)
    by true true = refl
    by true false = refl
    by false true = refl
    by false false = refl

found : (place key value : ℕ) (es : Entries) → lookup (is_at (nat_cmp place)) ((key, value) ∷ es) ≡ (if nat_eq place key then Some value else lookup (is_at (nat_cmp place)) es)
found place key value es = ap (λ b. cond b (Some value) (lookup (is_at (nat_cmp place)) es)) (at-place place key)

-- nothing stands at places up to that before the first
none-up-to : (key place : ℕ) (es : Entries) → AllByRecursion (λ y. nat_cmp key y ≡ Less) (keys_of es) → place ≤ key → lookup (is_at (nat_cmp place)) es ≡ None
none-up-to key place [] all h = refl
none-up-to key place ((k, v) ∷ es) all h =
    let apart : nat_eq place k ≡ false = grind (arith, nat_tests, all.0) in
    found place k v es ∙ ap (λ b. if b then Some v else lookup (is_at (nat_cmp place)) es) apart ∙ none-up-to key place es all.1 h

none-before : (place key value : ℕ) (es : Entries) → IsStrictlySortedBy nat_cmp (keys_of ((key, value) ∷ es)) → place < key → lookup (is_at (nat_cmp place)) ((key, value) ∷ es) ≡ None
none-before place key value es s h =
    let apart : nat_eq place key ≡ false = grind (arith, nat_tests, h) in
    found place key value es ∙ ap (λ b. if b then Some value else lookup (is_at (nat_cmp place)) es) apart ∙ none-up-to key place es (sorted_head nat_cmp key (keys_of es) s) (omega (arith, h))

at-own : (place key value : ℕ) (es : Entries) → place ≡ key → lookup (is_at (nat_cmp place)) ((key, value) ∷ es) ≡ Some value
at-own place key value es e =
    let same : nat_eq place key ≡ true = grind (arith, nat_tests, e) in
    found place key value es ∙ ap (λ b. if b then Some value else lookup (is_at (nat_cmp place)) es) same

at-other : (place key value : ℕ) (es : Entries) → key < place → lookup (is_at (nat_cmp place)) ((key, value) ∷ es) ≡ lookup (is_at (nat_cmp place)) es
at-other place key value es h =
    let apart : nat_eq place key ≡ false = grind (arith, nat_tests, h) in
    found place key value es ∙ ap (λ b. if b then Some value else lookup (is_at (nat_cmp place)) es) apart

module _ (f : NameId → Option ℕ) where
  abbrev IsWalked : List NameId → Entries → Type 0
  IsWalked ids es = values_of es ≡ flat_map (λ id. option_to_list (f id)) ids

  -- the entries are those of the places from k on
  walk : (ids : List NameId) (k : ℕ) (es : Entries) → IsStrictlySortedBy nat_cmp (keys_of es) → ((q : ℕ) → q < k → lookup (is_at (nat_cmp q)) es ≡ None)
      → ((j : ℕ) → lookup (is_at (nat_cmp (k + j))) es ≡ option_and_then f (slice_get ids j)) → IsWalked ids es
  unfolding IsStrictlySortedBy
  walk [] k [] s below at = refl
  walk (id ∷ ids) k [] s below at =
      walk ids (suc k) [] tt (λ q l. refl) (λ j. at (suc j)) ∙ ap (λ o. option_to_list o ++ flat_map (λ id. option_to_list (f id)) ids) (at 0)
  walk [] k ((key, value) ∷ es) s below at = absurd (by (cases_lt key k))
    where
      by : (key < k) ⊎ (k ≤ key) → ⊥
      by (inl l) = let c : Some value ≡ None = sym (at-own key key value es refl) ∙ below key l in cc
      by (inr l) = let c : Some value ≡ None = sym (at-own (k + (key - k)) key value es (omega (arith, l))) ∙ at (key - k) in cc
  walk (id ∷ ids) k ((key, value) ∷ es) s below at =
      by (cases_lt key k) (cases_lt k key) (λ t b a. walk ids (suc k) es t b a) (λ b a. walk ids (suc k) ((key, value) ∷ es) s b a)
    where
      next : (j : ℕ) → suc k + j ≡ k + suc j
      next j = omega arith

      by : (key < k) ⊎ (k ≤ key) → (k < key) ⊎ (key ≤ k)
          → (IsStrictlySortedBy nat_cmp (keys_of es) → ((q : ℕ) → q < suc k → lookup (is_at (nat_cmp q)) es ≡ None) → ((j : ℕ) → lookup (is_at (nat_cmp (suc k + j))) es ≡ option_and_then f (slice_get ids j)) → IsWalked ids es)
          → (((q : ℕ) → q < suc k → lookup (is_at (nat_cmp q)) ((key, value) ∷ es) ≡ None) → ((j : ℕ) → lookup (is_at (nat_cmp (suc k + j))) ((key, value) ∷ es) ≡ option_and_then f (slice_get ids j)) → IsWalked ids ((key, value) ∷ es))
          → IsWalked (id ∷ ids) ((key, value) ∷ es)
      by (inl l) m here later = let c : Some value ≡ None = sym (at-own key key value es refl) ∙ below key l in absurd cc
      by (inr l) (inl m) here later =
          let none : f id ≡ None = sym (at 0) ∙ none-before (k + 0) key value es s (omega (arith, m)) in
          later (λ q h. none-before q key value es s (omega (arith, m, h))) (λ j. ap (λ n. lookup (is_at (nat_cmp n)) ((key, value) ∷ es)) (next j) ∙ at (suc j))
          ∙ ap (λ o. option_to_list o ++ flat_map (λ id. option_to_list (f id)) ids) (sym none)
      by (inr l) (inr m) here later =
          let some : f id ≡ Some value = sym (at 0) ∙ at-own (k + 0) key value es (omega (arith, l, m)) in
          let rest : IsWalked ids es =
          here (sorted_tail nat_cmp key (keys_of es) s) (λ q h. none-up-to key q es (sorted_head nat_cmp key (keys_of es) s) (omega (arith, l, h)))
          (λ j. ap (λ n. lookup (is_at (nat_cmp n)) es) (next j) ∙ (sym (at-other (k + suc j) key value es (omega (arith, m))) ∙ at (suc j))) in
          ap (λ vs. value ∷ vs) rest ∙ ap (λ o. option_to_list o ++ flat_map (λ id. option_to_list (f id)) ids) (sym some)

-- the values of a table that has the place of each initialiser at its member's
pub in-order : (base : Option (Placed NameId)) (members : List NameId) (is : List InitTree) (es : Entries) → IsStrictlySortedBy nat_cmp (keys_of es) → ((place : ℕ) → lookup (is_at (nat_cmp place)) es ≡ init_at base members is place)
    → values_of es ≡ order_of base members is
in-order base members is es s at =
    walk (init_of base is) members 0 es s (λ q h. absurd (omega (arith, h))) (λ j. ap (λ n. lookup (is_at (nat_cmp n)) es) (omega arith) ∙ at j)

-- ---- the assignments

none-for : (base : Option (Placed NameId)) (id : NameId) (at : ℕ) (is : List InitTree) (found : Option ℕ) → list_any (is_for base id) is ≡ false → (init_from base id at is found ≡ found) × (assignments_for base is id ≡ [])
none-for base id at [] found none = (refl, refl)
none-for base id at (i ∷ is) found none = by (is_for base id i) none (λ o. none-for base id (suc at) is o)
  where
    by : (b : Bool) → b || list_any (is_for base id) is ≡ false → ((o : Option ℕ) → list_any (is_for base id) is ≡ false → (init_from base id (suc at) is o ≡ o) × (assignments_for base is id ≡ []))
        → (init_from base id (suc at) is (if b then Some at else found) ≡ found) × ((if b then assignments_of i.name i.arguments else []) ++ assignments_for base is id ≡ [])
    by true h rest = absurd (true≢false h)
    by false h rest = rest found h

-- no other initialiser is for a member, where none names what this one does
apart : (base : Option (Placed NameId)) (id : NameId) (first : InitTree) (rest : List InitTree) → is_for base id first ≡ true → list_any (same_name first) rest ≡ false → list_any (is_for base id) rest ≡ false
apart base id first [] one none = refl
apart base id first (i ∷ rest) one none =
    let named : nat_eq id.0 first.name.item.0 ≡ true = left_of _ _ one in
    let same : id.0 ≡ first.name.item.0 = grind (arith, nat_tests, named) in
    let other : nat_eq first.name.item.0 i.name.item.0 ≡ false = neither _ _ none in
    let not-named : nat_eq id.0 i.name.item.0 ≡ false = ap (λ n. nat_eq n i.name.item.0) same ∙ other in
    ap (λ b. (b && not (names_base base i)) || list_any (is_for base id) rest) not-named ∙ apart base id first rest one (nor _ _ none)
  where
    left_of : (a b : Bool) → a && b ≡ true → a ≡ true
    left_of true b h = refl
    left_of false b h = h

    neither : (a b : Bool) → a || b ≡ false → a ≡ false
    neither true b h = h
    neither false b h = refl

    nor : (a b : Bool) → a || b ≡ false → b ≡ false
    nor true b h = absurd (true≢false h)
    nor false b h = h

module _ (base : Option (Placed NameId)) (members : List NameId) where
  assigned-from : (id : NameId) (out : ℕ → List StmtTree) (at : ℕ) (is : List InitTree) → ((j : ℕ) → out (at + j) ≡ assignment_of_any (slice_get is j)) → are_meant base members is ≡ true
      → flat_map out (option_to_list (init_from base id at is None)) ≡ assignments_for base is id
  assigned-from id out at [] outs meant = refl
  assigned-from id out at (i ∷ is) outs meant = by (is_for base id i) refl (assigned-from id out (suc at) is)
    where
      parts : (a b c : Bool) → a && (not b && c) ≡ true → (b ≡ false) × (c ≡ true)
      parts true true c h = absurd (true≢false (sym h))
      parts true false c h = (refl, h)
      parts false b c h = absurd (true≢false (sym h))

      both : (list_any (same_name i) is ≡ false) × (are_meant base members is ≡ true)
      both = parts (is_meant base members i) (list_any (same_name i) is) (are_meant base members is) meant

      next : (j : ℕ) → suc at + j ≡ at + suc j
      next j = omega arith

      by : (b : Bool) → is_for base id i ≡ b → (((j : ℕ) → out (suc at + j) ≡ assignment_of_any (slice_get is j)) → are_meant base members is ≡ true → flat_map out (option_to_list (init_from base id (suc at) is None)) ≡ assignments_for base is id)
          → flat_map out (option_to_list (init_from base id (suc at) is (if b then Some at else None))) ≡ (if b then assignments_of i.name i.arguments else []) ++ assignments_for base is id
      by true e rest =
          let alone = none-for base id (suc at) is (Some at) (apart base id i is e both.0) in
          let own : out at ≡ assignments_of i.name i.arguments = ap out (omega arith) ∙ outs 0 in
          ap (λ o. flat_map out (option_to_list o)) alone.0 ∙ (ap (λ xs. xs ++ []) own ∙ ap (λ xs. assignments_of i.name i.arguments ++ xs) (sym alone.1))
      by false e rest = rest (λ j. ap out (next j) ∙ outs (suc j)) both.1

  pub assigned : (is : List InitTree) → are_meant base members is ≡ true → flat_map (assignment_at is) (order_of base members is) ≡ flat_map (assignments_for base is) members
  assigned is meant =
      flat_map-flat_map (assignment_at is) (λ id. option_to_list (init_of base is id)) (assignments_for base is) (λ id. assigned-from id (assignment_at is) 0 is (λ j. ap (assignment_at is) (omega arith)) meant) members

-- ---- names that were named before

-- none of the initialisers names what is in the set
abbrev pub all_new : (ℕ → Bool) → List InitTree → Bool
all_new named [] = true
all_new named (i ∷ is) = not (named i.name.item.0) && all_new named is

new-and : (named : ℕ → Bool) (new : ℕ → Bool) (first : InitTree) (is : List InitTree) → ((q : ℕ) → new q ≡ cond (is_at (nat_cmp first.name.item.0) q) true (named q)) → all_new new is ≡ all_new named is && not (list_any (same_name first) is)
new-and named new first [] told = refl
new-and named new first (i ∷ is) told =
    let one : new i.name.item.0 ≡ cond (same_name first i) true (named i.name.item.0) = told i.name.item.0 ∙ ap (λ b. cond b true (named i.name.item.0)) (at-place first.name.item.0 i.name.item.0) in
    ap (λ b. not b && all_new new is) one ∙ (ap (λ b. not (cond (same_name first i) true (named i.name.item.0)) && b) (new-and named new first is told) ∙ by (same_name first i) (named i.name.item.0) (all_new named is) (list_any (same_name first) is))
  where
    by : (a b c d : Bool) → not (cond a true b) && (c && not d) ≡ (not b && c) && not (a || d)
    by true true c d = refl
    by true false true d = refl
    by true false false d = refl
    by false true c d = refl
    by false false c d = refl

-- one more initialiser is meant, and new
pub meant-turn : (base : Option (Placed NameId)) (members : List NameId) (named new : ℕ → Bool) (first : InitTree) (rest : List InitTree) → is_meant base members first ≡ true → named first.name.item.0 ≡ false
    → ((q : ℕ) → new q ≡ cond (is_at (nat_cmp first.name.item.0) q) true (named q)) → all_new named (first ∷ rest) && are_meant base members (first ∷ rest) ≡ all_new new rest && are_meant base members rest
meant-turn base members named new first rest meant unseen told =
    ap (λ a. (not a && all_new named rest) && are_meant base members (first ∷ rest)) unseen
    ∙ (ap (λ a. all_new named rest && (a && (not (list_any (same_name first) rest) && are_meant base members rest))) meant
    ∙ (by (all_new named rest) (not (list_any (same_name first) rest)) (are_meant base members rest) ∙ ap (λ a. a && are_meant base members rest) (sym (new-and named new first rest told))))
  where
    by : (a b c : Bool) → a && (b && c) ≡ (a && b) && c
    by true b c = refl
    by false b c = refl

pub none-named : (named : ℕ → Bool) → ((q : ℕ) → named q ≡ false) → (is : List InitTree) → all_new named is ≡ true
none-named named none [] = refl
none-named named none (i ∷ is) = ap (λ b. not b && all_new named is) (none i.name.item.0) ∙ none-named named none is

pub new-then : (known : Bool) → not known ≡ true → known ≡ false
new-then true h = sym h
new-then false h = refl
