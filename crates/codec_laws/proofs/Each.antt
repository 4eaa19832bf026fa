-- What holds of each element of a list, and of each two, by recursion.
use Rattle.std.proofs.Common.{◌≡◌, ◌≢◌, zero, suc, List, [], ◌∷◌, ◌++◌, map, AllPairs, arith}
use Rattle.std.specs.List.{All}

module _ {X : Type 0} where
  abbrev pub Each : (X → Type 0) → List X → Type 0
  Each P [] = Unit {0}
  Each P (x ∷ xs) = P x × Each P xs

  pub each-all : (P : X → Type 0) (xs : List X) → Each P xs → All P xs
  each-all P [] h k d i = absurd (omega arith)
  each-all P (x ∷ xs) h zero d i = h.0
  each-all P (x ∷ xs) h (suc k) d i = each-all P xs h.1 k d (omega arith)

  pub all-each : (P : X → Type 0) (xs : List X) → All P xs → Each P xs
  all-each P [] h = tt
  all-each P (x ∷ xs) h = (h 0 x (omega arith), all-each P xs (λ k d i. h (suc k) d (omega arith)))

  pub each-both : (P : X → Type 0) (xs ys : List X) → Each P xs → Each P ys → Each P (xs ++ ys)
  each-both P [] ys h g = g
  each-both P (x ∷ xs) ys h g = (h.0, each-both P xs ys h.1 g)

  pub each-as : (P Q : X → Type 0) → ((x : X) → P x → Q x) → (xs : List X) → Each P xs → Each Q xs
  each-as P Q f [] h = tt
  each-as P Q f (x ∷ xs) h = (f x h.0, each-as P Q f xs h.1)

  pub each-of : (P : X → Type 0) → ((x : X) → P x) → (xs : List X) → Each P xs
  each-of P f [] = tt
  each-of P f (x ∷ xs) = (f x, each-of P f xs)

  -- ---- each two

  abbrev pub Apart : List X → Type 0
  Apart [] = Unit {0}
  Apart (x ∷ xs) = Each (λ y. x ≢ y) xs × Apart xs

  pub apart-pairs : (xs : List X) → Apart xs → AllPairs (λ x y. x ≢ y) xs
  apart-pairs [] h i j d l k = absurd (omega arith)
  apart-pairs (x ∷ xs) h i zero d l k = absurd (omega arith)
  apart-pairs (x ∷ xs) h zero (suc j) d l k = each-all (λ y. x ≢ y) xs h.0 j d (omega arith)
  apart-pairs (x ∷ xs) h (suc i) (suc j) d l k = apart-pairs xs h.1 i j d (omega arith) (omega arith)

  pub pairs-apart : (xs : List X) → AllPairs (λ x y. x ≢ y) xs → Apart xs
  pairs-apart [] h = tt
  pairs-apart (x ∷ xs) h = (
    all-each (λ y. x ≢ y) xs (λ k d i. h 0 (suc k) d (omega arith) (omega arith)),
    pairs-apart xs (λ i j d l k. h (suc i) (suc j) d (omega arith) (omega arith)),
  )

  pub apart-both : (xs ys : List X) → Apart xs → Apart ys → Each (λ x. Each (λ y. x ≢ y) ys) xs → Apart (xs ++ ys)
  apart-both [] ys h g b = g
  apart-both (x ∷ xs) ys h g b = (each-both (λ y. x ≢ y) xs ys h.0 b.0, apart-both xs ys h.1 g b.1)

module _ {X Y : Type 0} (f : X → Y) where
  pub each-map : (P : Y → Type 0) → ((x : X) → P (f x)) → (xs : List X) → Each P (map f xs)
  each-map P g [] = tt
  each-map P g (x ∷ xs) = (g x, each-map P g xs)

  apart-from : ((x y : X) → f x ≡ f y → x ≡ y) → (x : X) (xs : List X) → Each (λ y. x ≢ y) xs
      → Each (λ y. f x ≢ y) (map f xs)
  apart-from back x [] h = tt
  apart-from back x (y ∷ xs) h = (λ e. h.0 (back x y e), apart-from back x xs h.1)

  pub apart-map : ((x y : X) → f x ≡ f y → x ≡ y) → (xs : List X) → Apart xs → Apart (map f xs)
  apart-map back [] h = tt
  apart-map back (x ∷ xs) h = (apart-from back x xs h.0, apart-map back xs h.1)
