-- The first sights of names are the names, each once.
use Rattle.std.proofs.Common.{◌≡◌, ◌≢◌, ℕ, ◌<◌, ◌≤◌, ◌⊎◌, inl, inr, Bool, true, false, not, cond, if◌then◌else◌, nat_eq, List, [], ◌∷◌, ◌++◌, length, Option, Some, None, option_map, is_some, slice_get, slice_index_or, get_or, refl, sym, ap, ◌∙◌, arith, append_assoc, true≢false, subst}
use Rattle.std.specs.List.{find, filter, AllPairs}
use Rattle.std.proofs.lemmas.List.Elements.{filter_passes}
use Rattle.std.proofs.lemmas.List.Kept.{AllPairs-cons, AllPairs-filter}
use Rattle.std.proofs.lemmas.Map.Entries.{lookup-filter-keys}
use Rattle.std.proofs.lemmas.Option.{none-some, slice_get_past, slice_get_cases}
use Rattle.agxx_base.specs.declared.ids.NameId.{NameId}
use Rattle.agxx_base.specs.declared.place.Place.{Place}
use Rattle.cxx_tree.specs.declared.node.Placed.{Placed}
use Rattle.cxx_tree.specs.ProgramTree.{ProgramTree}
use Rattle.cxx_names.specs.Tables.{named, thing_by, with_name}
use Rattle.cxx_distinct.specs.NamesIn.{names_in_program}
use Rattle.cxx_distinct.specs.Sights.{seen, first_sights, name_past}
use Rattle.names_laws.specs.DistinctNames.{Sight, sight, is_other, each_once, first_place, DistinctNamesAreEachOnce}
use Rattle.names_laws.proofs.Lists.{same-number, number-itself, or_else, named-one-more}

-- ---- filters

-- what passes two tests, one after the other
filter-both : {X : Type 0} (r p q : X → Bool) → ((x : X) → r x ≡ (if q x then p x else false)) → (xs : List X) → filter r xs ≡ filter p (filter q xs)
filter-both r p q e [] = refl
filter-both r p q e (x ∷ xs) = by (q x) (e x) (filter-both r p q e xs)
  where
    by : (b : Bool) → r x ≡ (if b then p x else false) → filter r xs ≡ filter p (filter q xs)
        → cond (r x) (x ∷ filter r xs) (filter r xs) ≡ filter p (cond b (x ∷ filter q xs) (filter q xs))
    by true f g = ap (λ b. cond b (x ∷ filter r xs) (filter r xs)) f ∙ ap (λ l. cond (p x) (x ∷ l) l) g
    by false f g = ap (λ b. cond b (x ∷ filter r xs) (filter r xs)) f ∙ g

filter-all : {X : Type 0} (p : X → Bool) → ((x : X) → p x ≡ true) → (xs : List X) → filter p xs ≡ xs
filter-all p e [] = refl
filter-all p e (x ∷ xs) = ap (λ b. cond b (x ∷ filter p xs) (filter p xs)) (e x) ∙ ap (λ l. x ∷ l) (filter-all p e xs)

-- ---- names that were not seen

abbrev is-new : List Sight → Sight → Bool
is-new sights s = not (is_some (named sights s.0))

-- where a name was seen, those that are new are so among the others
seen-new : (sights : List Sight) (name : ℕ) → is_some (named sights name) ≡ true → (s : Sight) → is-new sights s ≡ (if is_other name s then is-new sights s else false)
seen-new sights name e s = by (nat_eq name s.0) refl
  where
    by : (b : Bool) → nat_eq name s.0 ≡ b → is-new sights s ≡ (if not b then is-new sights s else false)
    by true same = ap (λ n. not (is_some (named sights n))) (sym (same-number name s.0 same)) ∙ ap not e
    by false other = refl

new-by : (o : Option Place) (b c : Bool) (at : Place) → c ≡ b → not (is_some (or_else o (cond c (Some at) None))) ≡ (if not b then not (is_some o) else false)
new-by None true true at e = refl
new-by None true false at e = absurd (true≢false (sym e))
new-by None false true at e = absurd (true≢false e)
new-by None false false at e = refl
new-by (Some x) true c at e = refl
new-by (Some x) false c at e = refl

eq-sym : (a b : ℕ) → nat_eq a b ≡ nat_eq b a
eq-sym a b = by (nat_eq a b) (nat_eq b a) refl refl
  where
    by : (x y : Bool) → nat_eq a b ≡ x → nat_eq b a ≡ y → x ≡ y
    by true true e f = refl
    by false false e f = refl
    by true false e f = absurd (true≢false (sym (ap (nat_eq b) (same-number a b e) ∙ number-itself b) ∙ f))
    by false true e f = absurd (true≢false (sym (ap (nat_eq a) (same-number b a f) ∙ number-itself a) ∙ e))

-- once a name is added, those are new that were and are others
added-new : (sights : List Sight) (n : Placed NameId) (s : Sight) → is-new (sights ++ sight n ∷ []) s ≡ (if is_other n.item.0 s then is-new sights s else false)
added-new sights n s =
    ap (λ o. not (is_some o)) (named-one-more sights n.item.0 n.at s.0)
    ∙ new-by (named sights s.0) (nat_eq n.item.0 s.0) (nat_eq s.0 n.item.0) n.at (eq-sym s.0 n.item.0)

seen-is : (sights : List Sight) (ns : List (Placed NameId)) → seen sights ns ≡ sights ++ filter (is-new sights) (each_once ns)
seen-is sights [] = sym (append-none sights)
  where
    append-none : (xs : List Sight) → xs ++ [] ≡ xs
    append-none [] = refl
    append-none (x ∷ xs) = ap (λ l. x ∷ l) (append-none xs)
seen-is sights (n ∷ ns) = seen-is (with_name sights n.item.0 n.at) ns ∙ by (is_some (named sights n.item.0)) refl
  where
    by : (b : Bool) → is_some (named sights n.item.0) ≡ b
        → (let after = if b then sights else sights ++ sight n ∷ [] in after ++ filter (is-new after) (each_once ns))
        ≡ sights ++ cond (not b) (sight n ∷ filter (is-new sights) (filter (is_other n.item.0) (each_once ns))) (filter (is-new sights) (filter (is_other n.item.0) (each_once ns)))
    by true e =
        ap (λ l. sights ++ l) (filter-both (is-new sights) (is-new sights) (is_other n.item.0) (seen-new sights n.item.0 e) (each_once ns))
    by false e =
        append_assoc sights (sight n ∷ []) (filter (is-new (sights ++ sight n ∷ [])) (each_once ns))
        ∙ ap (λ l. sights ++ sight n ∷ l) (filter-both (is-new (sights ++ sight n ∷ [])) (is-new sights) (is_other n.item.0) (added-new sights n) (each_once ns))

of-names : (ns : List (Placed NameId)) → first_sights ns ≡ each_once ns
of-names ns = seen-is [] ns ∙ filter-all (is-new []) (λ s. refl) (each_once ns)

-- ---- each once

not-true : (b : Bool) → not b ≡ true → b ≡ false
not-true true e = absurd (true≢false (sym e))
not-true false e = refl

other-than : (name : ℕ) (s : Sight) → is_other name s ≡ true → name ≢ s.0
other-than name s e same = true≢false (sym (ap (nat_eq name) (sym same) ∙ number-itself name) ∙ not-true (nat_eq name s.0) e)

apart-once : (ns : List (Placed NameId)) → AllPairs (λ (s t : Sight). s.0 ≢ t.0) (each_once ns)
apart-once [] = λ i j d l m. absurd (omega arith)
apart-once (n ∷ ns) =
    AllPairs-cons (λ (s t : Sight). s.0 ≢ t.0) (sight n) (filter (is_other n.item.0) (each_once ns))
    (λ k d l. other-than n.item.0 (slice_index_or (filter (is_other n.item.0) (each_once ns)) k d) (filter_passes (is_other n.item.0) (each_once ns) k d l))
    (AllPairs-filter (λ (s t : Sight). s.0 ≢ t.0) (is_other n.item.0) (each_once ns) (apart-once ns))

-- ---- the place of a name

place-once : (ns : List (Placed NameId)) (name : ℕ) → named (each_once ns) name ≡ first_place ns name
place-once [] name = refl
place-once (n ∷ ns) name = by (nat_eq name n.item.0) refl (place-once ns name)
  where
    kept : nat_eq name n.item.0 ≡ false → (k : ℕ) → nat_eq name k ≡ true → not (nat_eq n.item.0 k) ≡ true
    kept other k same =
        ap not (ap (nat_eq n.item.0) (sym (same-number name k same)) ∙ eq-sym n.item.0 name ∙ other)

    by : (b : Bool) → nat_eq name n.item.0 ≡ b → named (each_once ns) name ≡ first_place ns name
        → cond b (Some n.at) (named (filter (is_other n.item.0) (each_once ns)) name) ≡ option_map (λ (x : Placed NameId). x.at) (cond b (Some n) (find (λ (x : Placed NameId). nat_eq name x.item.0) ns))
    by true same later = refl
    by false other later =
        lookup-filter-keys (nat_eq name) (λ k. not (nat_eq n.item.0 k)) true (kept other) (each_once ns) ∙ later

-- ---- limits

module _ (q : ProgramTree) (limit : ℕ) where
  abbrev sights : List Sight
  sights = first_sights (names_in_program q)

  once-length : length sights ≡ length (each_once (names_in_program q))
  once-length = ap length (of-names (names_in_program q))

  within : length (each_once (names_in_program q)) ≤ limit → name_past limit q ≡ None
  within h = let l = once-length in ap thing_by (slice_get_past sights limit (omega arith))

  none-there : (o : Option Sight) (x : Sight) → o ≡ Some x → thing_by o ≡ None → ⊥
  none-there o x e f = none-some x.1 (sym f ∙ ap thing_by e)

  no-more : name_past limit q ≡ None → length (each_once (names_in_program q)) ≤ limit
  no-more e = by (slice_get_cases sights limit).1
    where
      by : ((x : Sight) × (limit < length sights) × (slice_get sights limit ≡ Some x) × (get_or sights limit x ≡ x)) ⊎ ((length sights ≤ limit) × (slice_get sights limit ≡ None)) → length (each_once (names_in_program q)) ≤ limit
      by (inl found) = absurd (none-there (slice_get sights limit) found.0 found.2 e)
      by (inr past) = let l = once-length in let h = past.0 in omega arith

pub distinct-names : DistinctNamesAreEachOnce
distinct-names = record {
  of_names = of-names;
  apart = λ ns. subst (AllPairs (λ (s t : Sight). s.0 ≢ t.0)) (sym (of-names ns)) (apart-once ns);
  of_name = λ ns name. ap (λ es. named es name) (of-names ns) ∙ place-once ns name;
  within = within;
  no_more = no-more;
}
