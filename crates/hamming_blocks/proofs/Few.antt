-- How many steps blocks take.
use Rattle.std.proofs.Common.{ℕ, ◌+◌, ◌*◌, ◌≤◌, arith}
use Rattle.std.proofs.Math.Nat.{mul-le-mul_right}

square : (k r : ℕ) → r ≤ k + 1 → r * r ≤ (k + 1) * r
square k r h = mul-le-mul_right r h

pub repair-few : (k r : ℕ) → r ≤ k + 1
    → (5 + 2) * k + ((1 + 3 * k + 2) * r + (1 + 3 * (r + k) + 2 + (1 + 3 * r + 2)))
    + ((1 + 5 * r + 3 + 2) * k + ((1 + 5 * r + 2) * r + (1 + (1 + 3 * (k + r) + 2) + 2 + 2 + 7))
    + ((4 + 2) * k + ((4 + 2) * r + (1 + (1 + (1 + 2) + 2) + 2 + 2))))
    ≤ 28 * ((k + 4) * (r + 4))
repair-few k r h = omega (arith, square k r h)

pub renew-few : (k r : ℕ) → (5 + 2) * k + ((1 + 3 * k + 2) * r + (1 + 3 * (r + k) + 2)) ≤ 28 * ((k + 4) * (r + 4))
renew-few k r = omega arith
