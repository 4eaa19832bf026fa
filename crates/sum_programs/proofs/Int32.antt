-- Numbers below 2^31 as values of 32 bits.
use Rattle.std.proofs.Common.{◌≡◌, ℕ, ◌+◌, ◌<◌, ◌≤◌, ◌^◌, Bool, true, ap, ◌∙◌, arith, Ok, Err, pos}
use Rattle.std.specs.Prelude.{Result, if◌then◌else◌, not, nat_le, ◌+ℤ◌}
use Rattle.std.specs.Fmt.{decimal, signed_decimal}
use Rattle.std.proofs.lemmas.Int.{ints}
use Rattle.std.proofs.lemmas.Bool.{le-leb}
use Rattle.agxx_base.specs.declared.kind.NumKind.TheVariants as num
use Rattle.cxx_tree.specs.declared.operator.BinOp.TheVariants.{Add}
use Rattle.cxx_arith.specs.declared.value.Value.{Value}
use Rattle.cxx_arith.specs.declared.value.ArithStop.{ArithStop}
use Rattle.cxx_arith.specs.declared.value.ArithStop.TheVariants.{Overflow}
use Rattle.cxx_arith.specs.Numbers.{number, value_of, convert_of, modulo}
use Rattle.cxx_arith.specs.Arithmetic.{apply_of, held_in, is_held, operand}
use Rattle.cxx_arith.proofs.Kept.{values_are_kept}

abbrev value : ℕ → Value
value n = record { kind = num.I32; bits = n }

number-is : (n : ℕ) → n < 2 ^ 31 → number (value n) ≡ pos n
number-is n h = grind (arith, ints)

pub converted-is : (n : ℕ) → n < 2 ^ 31 → convert_of num.I32 (value n) ≡ value n
converted-is n h = values_are_kept (value n) (omega arith)

operand-is : (n : ℕ) → n < 2 ^ 31 → operand num.I32 (value n) ≡ pos n
operand-is n h = ap number (converted-is n h) ∙ number-is n h

is-held : (n : ℕ) → n < 2 ^ 31 → is_held num.I32 (pos n) ≡ true
is-held n h = grind (arith, ints)

bits-are : (n : ℕ) → n < 2 ^ 31 → modulo 32 (pos n) ≡ n
bits-are n h = grind (arith, ints)

abbrev held_if : Bool → Value → Result Value ArithStop
held_if is_held v = if not is_held then Err Overflow else Ok v

held-is : (n : ℕ) → n < 2 ^ 31 → held_in num.I32 (pos n) ≡ Ok (value n)
held-is n h = ap (λ b. held_if b (value_of num.I32 (pos n))) (is-held n h) ∙ ap (λ x. held_if true (value x)) (bits-are n h)

pub added : (a b : ℕ) → a + b < 2 ^ 31 → apply_of Add (value a) (value b) ≡ Ok (value (a + b))
added a b h =
    ap (λ x. held_in num.I32 (x +ℤ operand num.I32 (value b))) (operand-is a (omega arith))
    ∙ ap (λ y. held_in num.I32 (pos a +ℤ y)) (operand-is b (omega arith))
    ∙ held-is (a + b) h

pub decimal-is : (n : ℕ) → n < 2 ^ 31 → signed_decimal (number (value n)) ≡ decimal n
decimal-is n h = ap signed_decimal (number-is n h)

pub nat_le-true : (a b : ℕ) → a ≤ b → nat_le a b ≡ true
nat_le-true a b h = le-leb a b h
