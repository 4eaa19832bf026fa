-- What the code computes in 128 bits of numbers that fit 64 bits is the whole number.
use Rattle.std.proofs.Common.{◌≡◌, ℕ, zero, suc, ◌-◌, ◌%◌, ◌*◌, ◌/◌, ◌^◌, ◌<◌, ◌≤◌, Bool, true, false, ℤ, pos, negsuc, ◌+ℤ◌, ◌-ℤ◌, ◌*ℤ◌, FitsSigned, w64, to_z, of_z, refl, arith, lit<, lit≤}
use Rattle.std.proofs.Math.Nat.{div-le_self}
use Rattle.std.specs.Prelude.{neg_ℤ, unsigned_abs, int_div, int_rem}
use Rattle.std.specs.Int.{w128}
use Rattle.std.proofs.lemmas.Int.{ints, to_z-of_z, to_z_pos, fits_signed_mul, fits_signed_from_abs, quot_is, rem_is}
use Rattle.std.proofs.lemmas.Nat.{one_shl, pow_below}
use Rattle.std.proofs.Math.Nat.{pow-le-pow_right}
use Rattle.cxx_arith.specs.Bounds.{IsWide, Fits64}

-- a number that is passed in 128 bits
abbrev pub kept : ℤ → ℤ
kept z = to_z w128 (of_z w128 z)

fits_wide : (a : ℤ) → IsWide a → FitsSigned w128 a
fits_wide a (p, q) = omega (arith, ints)

abs_wide : (a : ℤ) → IsWide a → unsigned_abs a < 2 ^ 64
abs_wide (pos n) (p, q) = omega (arith, ints)
abs_wide (negsuc n) (p, q) = omega (arith, ints)

pub wide_sum : (a b : ℤ) → IsWide a → IsWide b → kept (kept a +ℤ kept b) ≡ a +ℤ b
wide_sum a b (p, q) (r, s) = omega (arith, ints)

pub wide_difference : (a b : ℤ) → IsWide a → IsWide b → kept (kept a -ℤ kept b) ≡ a -ℤ b
wide_difference a b (p, q) (r, s) = omega (arith, ints)

pub wide_opposite : (a : ℤ) → IsWide a → kept (pos 0 -ℤ kept a) ≡ neg_ℤ a
wide_opposite a (p, q) = omega (arith, ints)

pub wide_complement : (a : ℤ) → IsWide a → kept (kept (pos 0 -ℤ kept a) -ℤ pos 1) ≡ neg_ℤ a -ℤ pos 1
wide_complement a (p, q) = omega (arith, ints)

abs_neg : (n : ℕ) → unsigned_abs (neg_ℤ (pos n)) ≡ n
abs_neg zero = refl
abs_neg (suc n) = refl

abs_quotient : (a b : ℤ) → unsigned_abs (int_div a b) ≤ unsigned_abs a
abs_quotient (pos a) (pos b) = div-le_self a b
abs_quotient (pos a) (negsuc b) = rw (abs_neg (a / suc b)) (div-le_self a (suc b))
abs_quotient (negsuc a) (pos b) = rw (abs_neg (suc a / b)) (div-le_self (suc a) b)
abs_quotient (negsuc a) (negsuc b) = div-le_self (suc a) (suc b)

quotient_fits : (a b : ℤ) → IsWide a → FitsSigned w128 (int_div a b)
quotient_fits a b wide =
    let small : unsigned_abs a < 2 ^ 64 = abs_wide a wide in
    let below : unsigned_abs (int_div a b) ≤ unsigned_abs a = abs_quotient a b in
    fits_signed_from_abs w128 (int_div a b) (omega arith)

pub wide_quotient : (a b : ℤ) → IsWide a → IsWide b → kept (int_div (kept a) (kept b)) ≡ int_div a b
wide_quotient a b u v = quot_is w128 a b (fits_wide a u) (fits_wide b v) (quotient_fits a b u)

pub wide_remainder : (a b : ℤ) → IsWide a → IsWide b → kept (int_rem (kept a) (kept b)) ≡ int_rem a b
wide_remainder a b u v = rem_is w128 a b (fits_wide a u) (fits_wide b v)

kept_wide : (a : ℤ) → IsWide a → kept a ≡ a
kept_wide a (p, q) = omega (arith, ints)

abs_signed : (a : ℤ) → FitsSigned w64 a → unsigned_abs a ≤ 2 ^ 63
abs_signed (pos n) f = omega (arith, ints)
abs_signed (negsuc n) f = omega (arith, ints)

product_fits : (a b : ℤ) → FitsSigned w64 a → FitsSigned w64 b → FitsSigned w128 (a *ℤ b)
product_fits a b f g = fits_signed_mul w128 a b (2 ^ 63) (2 ^ 63) (abs_signed a f) (abs_signed b g) (lit< tt)

kept_signed : (a : ℤ) → FitsSigned w64 a → kept a ≡ a
kept_signed a f = omega (arith, ints)

-- where the kind is signed
pub wide_product : (signed : Bool) (a b : ℤ) → signed ≡ true → Fits64 signed a → Fits64 signed b → kept (kept a *ℤ kept b) ≡ a *ℤ b
wide_product true a b is f g = rw (kept_signed a f, kept_signed b g) (to_z-of_z w128 (a *ℤ b) (product_fits a b f g))
wide_product false a b is f g = cc

-- ---- shifts

power_kept : (count : ℕ) → count < 64 → to_z w128 (1 * 2 ^ count % 2 ^ 128) ≡ pos (2 ^ count)
power_kept count h =
    rw (one_shl count 128 (omega arith)) (to_z_pos w128 (2 ^ count) (pow_below count 127 (omega arith)))

le_of_lt-suc : (count : ℕ) → count < 64 → count ≤ 63
le_of_lt-suc count h = omega arith

power_small : (count : ℕ) → count < 64 → 2 ^ count ≤ 2 ^ 63
power_small count h = pow-le-pow_right {n = 2} (lit≤ tt) (le_of_lt-suc count h)

shifted_fits : (a : ℤ) (count : ℕ) → IsWide a → count < 64 → FitsSigned w128 (a *ℤ pos (2 ^ count))
shifted_fits a count wide h =
    let small : unsigned_abs a < 2 ^ 64 = abs_wide a wide in
    fits_signed_mul w128 a (pos (2 ^ count)) (2 ^ 64 - 1) (2 ^ 63) (omega arith) (power_small count h) (lit< tt)

pub wide_shift_fits : (a : ℤ) (count : ℕ) → IsWide a → count < 64 → FitsSigned w128 (kept a *ℤ to_z w128 (1 * 2 ^ count % 2 ^ 128))
wide_shift_fits a count wide h = rw (kept_wide a wide, power_kept count h) (shifted_fits a count wide h)

pub wide_shift : (a : ℤ) (count : ℕ) → IsWide a → count < 64 → kept (kept a *ℤ to_z w128 (1 * 2 ^ count % 2 ^ 128)) ≡ a *ℤ pos (2 ^ count)
wide_shift a count wide h = rw (kept_wide a wide, power_kept count h) (to_z-of_z w128 (a *ℤ pos (2 ^ count)) (shifted_fits a count wide h))

pub ruleset wide = (wide_sum, wide_difference, wide_opposite, wide_complement, wide_quotient, wide_remainder)
