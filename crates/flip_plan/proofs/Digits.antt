-- Numbers up to a largest one.
use Rattle.std.proofs.Common.{◌≡◌, ℕ, ◌+◌, ◌≤◌, ◌⊎◌, inl, inr, List, [], ◌∷◌, ◌<◌, length, drop, drop-cons, get_or, fold, ap, sym, refl, ◌∙◌, add-one, arith}
use Rattle.std.specs.Prelude.{min}
use Rattle.flip_plan.specs.Numbers.{with_digit}

grows : (v : ℕ) (digits : List ℕ) → v ≤ fold with_digit v digits
grows v [] = omega arith
grows v (b ∷ digits) = omega (arith, grows (with_digit v b) digits)

larger : (a b most : ℕ) → most ≤ a → most ≤ b → min a most ≡ min b most
larger a b most h k = omega (arith, h, k)

capped-by : (v most : ℕ) (digits : List ℕ) → (v ≤ most) ⊎ (most ≤ v) → min (fold with_digit (min v most) digits) most ≡ min (fold with_digit v digits) most
capped-by v most digits (inl l) = ap (λ n. min (fold with_digit n digits) most) (omega (arith, l))
capped-by v most digits (inr l) =
    larger (fold with_digit (min v most) digits) (fold with_digit v digits) most (omega (arith, l, grows (min v most) digits)) (omega (arith, l, grows v digits))

either : (v most : ℕ) → (v ≤ most) ⊎ (most ≤ v)
either v most = grind arith

-- what was capped before the digits that follow doesn't change what is capped behind them
pub capped : (v most : ℕ) (digits : List ℕ) → min (fold with_digit (min v most) digits) most ≡ min (fold with_digit v digits) most
capped v most digits = capped-by v most digits (either v most)

-- one digit of a text more
pub digit_read : (n next i most : ℕ) (digits : List ℕ) → i < length digits → next ≡ min (with_digit n (get_or digits i 0)) most
    → min (fold with_digit next (drop (i + 1) digits)) most ≡ min (fold with_digit n (drop i digits)) most
digit_read n next i most digits l e =
    let cut : drop i digits ≡ get_or digits i 0 ∷ drop (i + 1) digits = rw (add-one, drop-cons digits i 0) refl in
    ap (λ z. min (fold with_digit z (drop (i + 1) digits)) most) e
    ∙ capped (with_digit n (get_or digits i 0)) most (drop (i + 1) digits)
    ∙ ap (λ ds. min (fold with_digit n ds) most) (sym cut)
