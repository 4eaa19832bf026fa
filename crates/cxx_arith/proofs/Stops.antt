-- The remainder stops where the quotient does.
use Rattle.std.proofs.Common.{◌≡◌, ℕ, zero, suc, ◌*◌, ◌/◌, ◌<◌, ◌≤◌, Bool, true, false, IsTrue, ℤ, pos, negsuc, refl, ◌∙◌, arith}
use Rattle.std.specs.Prelude.{if◌then◌else◌, neg_ℤ, int_div, int_rem, int_le, int_lt, not, ◌&&◌, Ok, Err, IsOk, MatchResult}
use Rattle.std.specs.Ordering.{int_eq}
use Rattle.std.proofs.lemmas.Int.{ints}
use Rattle.std.proofs.Math.Nat.{div-le_self, div-mul-le_self}
use Rattle.agxx_base.specs.declared.kind.NumKind.TheVariants as num
use Rattle.std.proofs.lemmas.Bool.Decides.{nat_tests}
use Rattle.cxx_arith.specs.declared.value.Value.{Value}
use Rattle.cxx_arith.specs.declared.value.ArithStop.TheVariants.{Overflow, ZeroDivisor}
use Rattle.cxx_arith.specs.Numbers.{value_of}
use Rattle.cxx_arith.specs.Arithmetic.{is_held}
use Rattle.cxx_arith.specs.Laws.{StopsTogether}

half_below : (m n : ℕ) → suc m / suc (suc n) * 2 ≤ suc m
half_below m n = omega (arith, div-mul-le_self (suc m) (suc (suc n)))

-- from -(g + 1) to g
abbrev lies : ℕ → ℤ → Bool
lies g z = int_le (negsuc g) z && int_lt z (pos (suc g))

below_pos : (g m : ℕ) → IsTrue (lies g (pos m)) → m < suc g
below_pos g m h = grind (arith, ints)

below_neg : (g m : ℕ) → IsTrue (lies g (negsuc m)) → m ≤ g
below_neg g m h = grind (arith, ints)

lies_neg : (g q : ℕ) → q ≤ suc g → lies g (neg_ℤ (pos q)) ≡ true
lies_neg g zero h = grind (arith, ints)
lies_neg g (suc q) h = grind (arith, ints)

not_both : (b : Bool) → true ≡ not (b && false)
not_both true = refl
not_both false = refl

divided : (g : ℕ) (a b : ℤ) → IsTrue (lies g a) → int_eq b (pos 0) ≡ false → lies g (int_div a b) ≡ not (int_eq a (negsuc g) && int_eq b (negsuc 0))
divided g (pos m) (pos n) h z = grind (arith, ints, div-le_self m n)
divided g (pos m) (negsuc n) h z = lies_neg g (m / suc n) (omega (arith, div-le_self m (suc n), below_pos g m h))
divided g (negsuc m) (pos n) h z = lies_neg g (suc m / n) (omega (arith, div-le_self (suc m) n, below_neg g m h)) ∙ not_both (int_eq (negsuc m) (negsuc g))
divided g (negsuc m) (negsuc zero) h z = grind (arith, ints, nat_tests, below_neg g m h)
divided g (negsuc m) (negsuc (suc n)) h z = grind (arith, ints, nat_tests, half_below m n, below_neg g m h)

stops_if : (zero_divisor signed held least : Bool) (q r : Value) → (zero_divisor ≡ false → held ≡ not least)
    → MatchResult (if zero_divisor then Err ZeroDivisor else (if signed && not held then Err Overflow else Ok q))
    (λ _. IsOk (if zero_divisor then Err ZeroDivisor else (if signed && least then Err Overflow else Ok r)))
    (λ why. (if zero_divisor then Err ZeroDivisor else (if signed && least then Err Overflow else Ok r)) ≡ Err why)
stops_if true signed held least q r e = refl
stops_if false false held least q r e = refl
stops_if false true true true q r e = let f : true ≡ false = e refl in cc
stops_if false true true false q r e = refl
stops_if false true false true q r e = refl
stops_if false true false false q r e = let f : false ≡ true = e refl in cc

pub stops_together : StopsTogether
stops_together num.Bool a b h k = stops_if (int_eq b (pos 0)) false true false (value_of num.Bool (int_div a b)) (value_of num.Bool (int_rem a b)) (λ _. refl)
stops_together num.I8 a b h k = stops_if (int_eq b (pos 0)) true (is_held num.I8 (int_div a b)) _ (value_of num.I8 (int_div a b)) (value_of num.I8 (int_rem a b)) (divided 127 a b h)
stops_together num.U8 a b h k = stops_if (int_eq b (pos 0)) false true false (value_of num.U8 (int_div a b)) (value_of num.U8 (int_rem a b)) (λ _. refl)
stops_together num.I16 a b h k = stops_if (int_eq b (pos 0)) true (is_held num.I16 (int_div a b)) _ (value_of num.I16 (int_div a b)) (value_of num.I16 (int_rem a b)) (divided 32767 a b h)
stops_together num.U16 a b h k = stops_if (int_eq b (pos 0)) false true false (value_of num.U16 (int_div a b)) (value_of num.U16 (int_rem a b)) (λ _. refl)
stops_together num.I32 a b h k = stops_if (int_eq b (pos 0)) true (is_held num.I32 (int_div a b)) _ (value_of num.I32 (int_div a b)) (value_of num.I32 (int_rem a b)) (divided 2147483647 a b h)
stops_together num.U32 a b h k = stops_if (int_eq b (pos 0)) false true false (value_of num.U32 (int_div a b)) (value_of num.U32 (int_rem a b)) (λ _. refl)
stops_together num.I64 a b h k = stops_if (int_eq b (pos 0)) true (is_held num.I64 (int_div a b)) _ (value_of num.I64 (int_div a b)) (value_of num.I64 (int_rem a b)) (divided 9223372036854775807 a b h)
stops_together num.U64 a b h k = stops_if (int_eq b (pos 0)) false true false (value_of num.U64 (int_div a b)) (value_of num.U64 (int_rem a b)) (λ _. refl)
