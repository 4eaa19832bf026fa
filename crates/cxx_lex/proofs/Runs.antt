-- Runs of bytes of one class.
use Rattle.std.proofs.Common.{◌≡◌, ℕ, suc, ◌≤◌, ◌+◌, Bool, true, false, cond, List, [], ◌∷◌, ◌++◌, take, drop, length, Option, Some, None, refl, ap, arith}
use Rattle.std.specs.Prelude.{◌&&◌, not}
use Rattle.std.specs.List.{list_all}
use Rattle.cxx_lex.specs.Runs.{run}

-- an answer of so many bytes more
abbrev pub longer : ℕ → Option ℕ → Option ℕ
longer n None = None
longer n (Some k) = Some (n + k)

pub both : (x y : Bool) → (x && y) ≡ true → (x ≡ true) × (y ≡ true)
both true y e = (refl, e)
both false y e = cc

pub not-false : (x : Bool) → not x ≡ true → x ≡ false
not-false true e = cc
not-false false e = refl

pub not-true : (x : Bool) → (x ≡ true → ⊥) → x ≡ false
not-true true f = absurd (f refl)
not-true false f = refl

-- no byte of the class begins the text
abbrev pub Stops : (ℕ → Bool) → List ℕ → Type 0
Stops p [] = Unit {0}
Stops p (b ∷ bs) = p b ≡ false

run-step : (x : Bool) (n m : ℕ) → n ≤ m → cond x (suc n) 0 ≤ suc m
run-step true n m h = omega arith
run-step false n m h = omega arith

pub run-le : (p : ℕ → Bool) (text : List ℕ) → run p text ≤ length text
run-le p [] = omega arith
run-le p (b ∷ bs) = run-step (p b) (run p bs) (length bs) (run-le p bs)

pub run-all : (p : ℕ → Bool) (text : List ℕ) → list_all p (take (run p text) text) ≡ true
run-all p [] = refl
run-all p (b ∷ bs) = go (p b) refl (run-all p bs)
  where
    go : (x : Bool) → p b ≡ x → list_all p (take (run p bs) bs) ≡ true → list_all p (take (cond x (suc (run p bs)) 0) (b ∷ bs)) ≡ true
    go true e a = rw e a
    go false e a = refl

pub run-stops : (p : ℕ → Bool) (text : List ℕ) → Stops p (drop (run p text) text)
run-stops p [] = tt
run-stops p (b ∷ bs) = go (p b) refl (run-stops p bs)
  where
    go : (x : Bool) → p b ≡ x → Stops p (drop (run p bs) bs) → Stops p (drop (cond x (suc (run p bs)) 0) (b ∷ bs))
    go true e a = a
    go false e a = e

pub run-most : (p : ℕ → Bool) (front behind : List ℕ) → list_all p front ≡ true → length front ≤ run p (front ++ behind)
run-most p [] behind a = omega arith
run-most p (b ∷ front) behind a =
    let c = both (p b) (list_all p front) a in
    let n = run-most p front behind c.1 in
    rw c.0 (omega (arith, n))

pub run-front : (p : ℕ → Bool) (front rest : List ℕ) → list_all p front ≡ true → Stops p rest → run p (front ++ rest) ≡ length front
run-front p [] [] a s = refl
run-front p [] (b ∷ rest) a s = rw s refl
run-front p (b ∷ front) rest a s =
    let c = both (p b) (list_all p front) a in
    rw c.0 (ap suc (run-front p front rest c.1 s))
