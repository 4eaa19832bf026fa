-- Lists of parts, and numbers in them.
use Rattle.std.proofs.Common.{◌≡◌, ℕ, refl, ◌∙◌, Bool, List, [], ◌∷◌, ◌++◌, map}
use Rattle.std.specs.List.{list_any, flat_map}
use Rattle.std.proofs.lemmas.Grind.{flat_map-append}
use Rattle.cxx_tree.specs.Limits.{Every}
use Rattle.cxx_normal.specs.Gives.{behind}
use Rattle.cxx_normal.specs.Numbers as n
use Rattle.cxx_normal.specs.Numbers.{Numbering}

module _ {A B : Type 0} (f : A → List B) where
  pub flat_map-nil : ((x : A) → f x ≡ []) → (xs : List A) → flat_map f xs ≡ []
  flat_map-nil none [] = refl
  flat_map-nil none (x ∷ xs) = rw (none x, flat_map-nil none xs)

  pub flat_map-map : (g : A → A) → ((x : A) → f (g x) ≡ f x) → (xs : List A) → flat_map f (map g xs) ≡ flat_map f xs
  flat_map-map g same [] = refl
  flat_map-map g same (x ∷ xs) = rw (same x, flat_map-map g same xs)

  pub flat_map-numbered : (number : Numbering A) → ((x : A) (k : ℕ) → f (number x k).0 ≡ f x) → (xs : List A) (k : ℕ) → flat_map f (n.number_each number xs k).0 ≡ flat_map f xs
  flat_map-numbered number same [] k = refl
  flat_map-numbered number same (x ∷ xs) k = rw (same x k, flat_map-numbered number same xs (number x k).1)

  -- one pass after another
  pub flat_map-flat_map : {C : Type 0} (g : C → List A) (h : C → List B) → ((x : C) → flat_map f (g x) ≡ h x) → (xs : List C) → flat_map f (flat_map g xs) ≡ flat_map h xs
  flat_map-flat_map g h same [] = refl
  flat_map-flat_map g h same (x ∷ xs) = flat_map-append f (g x) (flat_map g xs) ∙ rw (same x, flat_map-flat_map g h same xs)

pub list_any-numbered : {A : Type 0} (test : A → Bool) (number : Numbering A) → ((x : A) (k : ℕ) → test (number x k).0 ≡ test x) → (xs : List A) (k : ℕ) → list_any test (n.number_each number xs k).0 ≡ list_any test xs
list_any-numbered test number same [] k = refl
list_any-numbered test number same (x ∷ xs) k = rw (same x k, list_any-numbered test number same xs (number x k).1)

module _ {A : Type 0} (Holds : A → Type 0) where
  pub every-append : (xs ys : List A) → Every Holds xs → Every Holds ys → Every Holds (xs ++ ys)
  every-append [] ys one other = other
  every-append (x ∷ xs) ys one other = (one.0, every-append xs ys one.1 other)

  pub every-map : {B : Type 0} (f : B → A) → ((x : B) → Holds (f x)) → (xs : List B) → Every Holds (map f xs)
  every-map f each [] = tt
  every-map f each (x ∷ xs) = (each x, every-map f each xs)

  pub every-flat_map : {B : Type 0} (f : B → List A) → ((x : B) → Every Holds (f x)) → (xs : List B) → Every Holds (flat_map f xs)
  every-flat_map f each [] = tt
  every-flat_map f each (x ∷ xs) = every-append (f x) (flat_map f xs) (each x) (every-flat_map f each xs)

-- parts without nodes before others
abbrev pub IsStill : {A : Type 0} → Numbering A → A → Type 0
IsStill {A} number x = (k : ℕ) → number x k ≡ (x, k)

pub each-behind : {A : Type 0} (number : Numbering A) (xs ys : List A) → Every (IsStill number) xs → (k : ℕ) → n.number_each number (xs ++ ys) k ≡ behind xs (n.number_each number ys k)
each-behind number [] ys still k = refl
each-behind number (x ∷ xs) ys still k = rw (still.0 k, each-behind number xs ys still.1 k)
