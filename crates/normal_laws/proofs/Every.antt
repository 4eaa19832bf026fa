-- What holds of each part of lists that are put together and taken apart.
use Rattle.std.proofs.Common.{Bool, true, false, cond, List, [], ◌∷◌, ◌++◌, map}
use Rattle.std.specs.List.{filter, flat_map}
use Rattle.cxx_tree.specs.Limits.{Every}
use Rattle.cxx_normal.proofs.Lists.{every-append}

module _ {A : Type 0} (Holds : A → Type 0) where
  pub front-of : (xs ys : List A) → Every Holds (xs ++ ys) → Every Holds xs
  front-of [] ys all = tt
  front-of (x ∷ xs) ys all = (all.0, front-of xs ys all.1)

  pub back-of : (xs ys : List A) → Every Holds (xs ++ ys) → Every Holds ys
  back-of [] ys all = all
  back-of (x ∷ xs) ys all = back-of xs ys all.1

  pub each-part : {B : Type 0} (f : B → List A) (xs : List B) → Every Holds (flat_map f xs) → Every (λ x. Every Holds (f x)) xs
  each-part f [] all = tt
  each-part f (x ∷ xs) all = (front-of (f x) (flat_map f xs) all, each-part f xs (back-of (f x) (flat_map f xs) all))

  pub all-parts : {B : Type 0} (f : B → List A) (xs : List B) → Every (λ x. Every Holds (f x)) xs → Every Holds (flat_map f xs)
  all-parts f [] each = tt
  all-parts f (x ∷ xs) each = every-append Holds (f x) (flat_map f xs) each.0 (all-parts f xs each.1)

  pub each-filtered : (test : A → Bool) (xs : List A) → Every Holds xs → Every Holds (filter test xs)
  each-filtered test [] each = tt
  each-filtered test (x ∷ xs) each = by (test x) (each-filtered test xs each.1)
    where
      by : (b : Bool) → Every Holds (filter test xs) → Every Holds (cond b (x ∷ filter test xs) (filter test xs))
      by true others = (each.0, others)
      by false others = others

module _ {A B : Type 0} (P : A → Type 0) (Q : B → Type 0) where
  pub each-mapped : (f : A → B) → ((x : A) → P x → Q (f x)) → (xs : List A) → Every P xs → Every Q (map f xs)
  each-mapped f one [] each = tt
  each-mapped f one (x ∷ xs) each = (one x each.0, each-mapped f one xs each.1)

  pub each-made : (f : A → List B) → ((x : A) → P x → Every Q (f x)) → (xs : List A) → Every P xs → Every Q (flat_map f xs)
  each-made f one [] each = tt
  each-made f one (x ∷ xs) each = every-append Q (f x) (flat_map f xs) (one x each.0) (each-made f one xs each.1)
