-- Rules that change nothing any more, whatever the numbers of nodes are.
use Rattle.std.proofs.Common.{◌≡◌, ℕ, refl, List, [], ◌∷◌, map}
use Rattle.cxx_tree.specs.Limits.{Every}
use Rattle.cxx_normal.specs.Numbers as n
use Rattle.cxx_normal.specs.Numbers.{Numbering}

module _ {A : Type 0} (number : Numbering A) (rule : A → A) where
  abbrev pub IsSettled : A → Type 0
  IsSettled x = (k : ℕ) → rule (number x k).0 ≡ (number x k).0

  pub map-settled : (xs : List A) → Every IsSettled xs → (k : ℕ) → map rule (n.number_each number xs k).0 ≡ (n.number_each number xs k).0
  map-settled [] settled k = refl
  map-settled (x ∷ xs) settled k = rw (settled.0 k, map-settled xs settled.1 (number x k).1)
