-- What a piece holds.
use Rattle.std.proofs.Common.{◌≡◌, ℕ, zero, suc, ◌-◌, ◌≤◌, min, List, [], ◌∷◌, ◌++◌, length, take, drop, refl, sym, ap, ◌∙◌, arith}
use Rattle.std.proofs.lemmas.List.{take-append-le, length-take, length-drop, take_min}
use Rattle.std.proofs.Math.Seq.{take-length}

-- the first of the first
pub take-take : (n m : ℕ) (xs : List ℕ) → n ≤ m → take n (take m xs) ≡ take n xs
take-take zero m xs h = refl
take-take (suc n) zero xs h = absurd (omega arith)
take-take (suc n) (suc m) [] h = refl
take-take (suc n) (suc m) (x ∷ xs) h = ap (λ rest. x ∷ rest) (take-take n m xs (omega arith))

-- the first of the bytes, written over the first of a piece's
pub filled : (len : ℕ) (bytes head rest : List ℕ) → len ≡ min 4096 (length bytes) → head ≡ take len bytes → take len (head ++ rest) ≡ take 4096 bytes
filled len bytes head rest is front =
    let long : length head ≡ len = ap length front ∙ length-take len bytes ∙ omega arith in
    let fits : len ≤ length head = omega arith in
    take-append-le len head rest fits ∙ ap (λ n. take n head) (sym long) ∙ take-length head ∙ front ∙ ap (λ n. take n bytes) is ∙ take_min 4096 bytes

-- all that lies behind the first `done` bytes
pub behind : (done : ℕ) (bytes : List ℕ) → take (length bytes - done) (drop done bytes) ≡ drop done bytes
behind done bytes = ap (λ n. take n (drop done bytes)) (sym (length-drop done bytes)) ∙ take-length (drop done bytes)
