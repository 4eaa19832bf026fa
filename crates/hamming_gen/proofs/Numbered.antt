-- Lists made from numbers that are gone through in order: what is made so far is that of the numbers so far.
use Rattle.std.proofs.Common.{◌≡◌, ℕ, ◌+◌, sym, ap, ◌∙◌, List, [], ◌∷◌, ◌++◌, map, append_assoc, arith}
use Rattle.std.specs.List.{range_with_len}
use Rattle.std.proofs.lemmas.List.FromFn.{map-range_with_len_more}

-- one more, behind what was there before
pub one_more_behind :
    {X : Type 0} (f : ℕ → X) (a i j : ℕ) (x : X) (before here next : List X) → a + i ≡ j → x ≡ f j
    → next ≡ here ++ x ∷ [] → here ≡ before ++ map f (range_with_len a i)
    → next ≡ before ++ map f (range_with_len a (i + 1))
one_more_behind f a i j x before here next place is step all =
    let more : before ++ map f (range_with_len a (i + 1)) ≡ before ++ (map f (range_with_len a i) ++ f j ∷ [])
    = ap (λ xs. before ++ xs) (map-range_with_len_more f a i j place) in
    let front : (before ++ map f (range_with_len a i)) ++ x ∷ [] ≡ before ++ (map f (range_with_len a i) ++ x ∷ [])
    = simp append_assoc in
    step
    ∙ (ap (λ xs. xs ++ x ∷ []) all
    ∙ (front ∙ (ap (λ y. before ++ (map f (range_with_len a i) ++ y ∷ [])) is ∙ sym more)))

-- one more of a list that was empty before
pub one_more :
    {X : Type 0} (f : ℕ → X) (i : ℕ) (x : X) (here next : List X) → x ≡ f i → next ≡ here ++ x ∷ []
    → here ≡ map f (range_with_len 0 i) → next ≡ map f (range_with_len 0 (i + 1))
one_more f i x here next is step all = one_more_behind f 0 i i x [] here next (omega arith) is step all
