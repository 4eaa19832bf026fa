-- The words of an object by their numbers, as a list.
use Rattle.std.specs.Prelude.{ℕ, zero, suc, List, [], ◌∷◌, Option, Some, None}
use Rattle.step_machine.specs.Entries.{entry}

-- what a function gives at the numbers from 0 to below one
abbrev pub below : ℕ → (ℕ → ℕ) → List ℕ
below zero f = []
below (suc n) f = f 0 ∷ below n (λ i. f (suc i))

abbrev pub bits_or_zero : Option ℕ → ℕ
bits_or_zero None = 0
bits_or_zero (Some bits) = bits

-- so many words; one without an entry is 0
abbrev pub words_of : ℕ → List (ℕ × ℕ) → List ℕ
words_of n entries = below n (λ i. bits_or_zero (entry entries i))
