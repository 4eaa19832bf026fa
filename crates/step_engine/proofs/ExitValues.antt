-- A number of 32 bits is in their range.
use Rattle.std.proofs.Common.{◌≡◌, ℕ, pos, ◌-ℤ◌, ◌<◌, ◌≤◌, ◌^◌, ◌%◌, Bool, true, false, cond, nat_lt, FitsSigned, refl, arith}
use Rattle.std.specs.Int.{w32}
use Rattle.std.proofs.lemmas.Int.{ints}
use Rattle.std.proofs.lemmas.Nat.{pow_pos, mod_below}
use Rattle.std.proofs.lemmas.Bool.Decides.{nat_tests}
use Rattle.agxx_base.specs.declared.kind.NumKind.TheVariants as kind
use Rattle.cxx_arith.specs.declared.value.Value.{Value}
use Rattle.cxx_arith.specs.Numbers.{modulo, number, convert_of}

low : (m : ℕ) → nat_lt m (2 ^ 31) ≡ true → m < 2 ^ 31
low m e = grind (arith, nat_tests)

high : (m : ℕ) → nat_lt m (2 ^ 31) ≡ false → 2 ^ 31 ≤ m
high m e = grind (arith, nat_tests)

signed-fits : (m : ℕ) → m < 2 ^ 32 → (b : Bool) → nat_lt m (2 ^ 31) ≡ b → FitsSigned w32 (cond b (pos m) (pos m -ℤ pos (2 ^ 32)))
signed-fits m p true e = let q : m < 2 ^ 31 = low m e in omega (arith, ints)
signed-fits m p false e = let q : 2 ^ 31 ≤ m = high m e in omega (arith, ints)

pub exit_value_fits : (v : Value) → FitsSigned w32 (number (convert_of kind.I32 v))
exit_value_fits v = signed-fits (modulo 32 (number v) % 2 ^ 32) (mod_below (modulo 32 (number v)) (2 ^ 32) (pow_pos 32)) _ refl
