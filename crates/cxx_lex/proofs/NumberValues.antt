-- Values of digits.
use Rattle.std.proofs.Common.{◌≡◌, ℕ, suc, ◌≤◌, ◌<◌, ◌+◌, ◌*◌, ◌^◌, Bool, true, false, cond, List, [], ◌∷◌, drop, fold, length, get_or, drop-cons, Some, None, refl, sym, ap, ◌∙◌, subst, arith}
use Rattle.std.specs.Prelude.{nat_lt}
use Rattle.std.proofs.lemmas.Bool.Decides.{nat_tests}
use Rattle.cxx_lex.specs.Numbers.{digit_value, in_base}
use Rattle.cxx_lex.specs.NumberScan.{held}

-- more digits never make a value smaller
in_base-grows : (radix v : ℕ) (digits : List ℕ) → 0 < radix → v ≤ fold (λ n b. n * radix + digit_value b) v digits
in_base-grows radix v [] h = omega arith
in_base-grows radix v (d ∷ ds) h = more (v * radix) (digit_value d) _ (step v radix h) (in_base-grows radix (v * radix + digit_value d) ds h)
  where
    step : (v radix : ℕ) → 0 < radix → v ≤ v * radix
    step v radix h = grind arith

    more : (w x y : ℕ) → v ≤ w → w + x ≤ y → v ≤ y
    more w x y p q = omega arith

pub held-large : (x : ℕ) → 2 ^ 64 ≤ x → None ≡ held x
held-large x h = go (nat_lt x (2 ^ 64)) refl
  where
    go : (b : Bool) → nat_lt x (2 ^ 64) ≡ b → None ≡ cond b (Some x) None
    go true e = absurd (grind (arith, nat_tests, e, h))
    go false e = refl

pub held-none : (x : ℕ) → None ≡ held x → 2 ^ 64 ≤ x
held-none x n = go (nat_lt x (2 ^ 64)) refl n
  where
    go : (b : Bool) → nat_lt x (2 ^ 64) ≡ b → None ≡ cond b (Some x) None → 2 ^ 64 ≤ x
    go true e m = cc
    go false e m = grind (arith, nat_tests, e)

pub held-some : (x y : ℕ) → Some y ≡ held x → (x ≡ y) × (y < 2 ^ 64)
held-some x y n = go (nat_lt x (2 ^ 64)) refl n
  where
    go : (b : Bool) → nat_lt x (2 ^ 64) ≡ b → Some y ≡ cond b (Some x) None → (x ≡ y) × (y < 2 ^ 64)
    go true e m = let s : x ≡ y = cc in (s, subst (λ z. z < 2 ^ 64) s (grind (arith, nat_tests, e)))
    go false e m = cc

pub held-small : (x : ℕ) → x < 2 ^ 64 → Some x ≡ held x
held-small x h = go (nat_lt x (2 ^ 64)) refl
  where
    go : (b : Bool) → nat_lt x (2 ^ 64) ≡ b → Some x ≡ cond b (Some x) None
    go true e = refl
    go false e = absurd (grind (arith, nat_tests, e, h))

-- a front of the digits that is too large makes all of them too large
pub in_base-large : (radix v d i : ℕ) (digits : List ℕ) → 0 < radix → i < length digits → get_or digits i 0 ≡ d → None ≡ held (v * radix + digit_value d)
    → fold (λ n b. n * radix + digit_value b) v (drop i digits) ≡ in_base radix digits → None ≡ held (in_base radix digits)
in_base-large radix v d i digits h l g n e =
    let whole : fold (λ n b. n * radix + digit_value b) (v * radix + digit_value d) (drop (suc i) digits) ≡ in_base radix digits =
    ap (λ x. fold (λ n b. n * radix + digit_value b) (v * radix + digit_value x) (drop (suc i) digits)) (sym g) ∙ ap (fold (λ n b. n * radix + digit_value b) v) (sym (drop-cons digits i 0 l)) ∙ e in
    let least : v * radix + digit_value d ≤ in_base radix digits = subst (λ x. v * radix + digit_value d ≤ x) whole (in_base-grows radix (v * radix + digit_value d) (drop (suc i) digits) h) in
    held-large _ (omega (arith, least, held-none _ n))
