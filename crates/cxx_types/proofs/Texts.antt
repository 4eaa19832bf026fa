-- Lists that are copied item by item.
use Rattle.std.proofs.Common.{◌≡◌, ap, sym, ◌∙◌, ℕ, suc, ◌+◌, arith, List, [], ◌∷◌, ◌++◌, take, Option, Some}
use Rattle.std.specs.Prelude.{slice_get}
use Rattle.std.proofs.Math.Seq.{take-suc}
use Rattle.std.proofs.lemmas.Option.{slice_get_within, get_or_from_slice_get}

take-next : (xs : List (List ℕ)) (i : ℕ) (x : List ℕ) → slice_get xs i ≡ Some x → take (suc i) xs ≡ take i xs ++ x ∷ []
take-next xs i x e = take-suc xs i x (slice_get_within xs i x e) ∙ ap (λ y. take i xs ++ y ∷ []) (get_or_from_slice_get xs i x x e)

pub copied-turn : (xs done new : List (List ℕ)) (i : ℕ) (x copy : List ℕ) → done ≡ take i xs → slice_get xs i ≡ Some x → copy ≡ x → new ≡ done ++ copy ∷ [] → new ≡ take (i + 1) xs
copied-turn xs done new i x copy before is same more =
    let next : i + 1 ≡ suc i = omega arith in
    more ∙ ap (λ ys. ys ++ copy ∷ []) before ∙ ap (λ y. take i xs ++ y ∷ []) same ∙ sym (take-next xs i x is) ∙ ap (λ n. take n xs) (sym next)
