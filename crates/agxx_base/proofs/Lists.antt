-- Lists, of any elements.
use Rattle.std.proofs.Common.{◌≡◌, ℕ, suc, ◌+◌, ◌<◌, List, ◌∷◌, length, drop, drop-cons, get_or, add-one, ap, sym, ◌∙◌}

-- what a loop over a list has left at an element: the element, and what follows it
pub at-turn : {U : Type 0} (xs : List U) (i : ℕ) (x : U) → i < length xs → x ≡ get_or xs i x → drop i xs ≡ x ∷ drop (i + 1) xs
at-turn xs i x inside at = rw add-one (drop-cons xs i x inside ∙ ap (λ y. y ∷ drop (suc i) xs) (sym at))
