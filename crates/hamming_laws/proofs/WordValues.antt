-- The machine's operators on words.
use Rattle.std.proofs.Common.{◌≡◌, ◌≢◌, ℕ, zero, suc, ◌%◌, ◌^◌, ◌<◌, not, nat_eq, bit_and, bit_or, bit_xor, pos, refl, ap, ap₂, ◌∙◌, arith}
use Rattle.std.specs.Prelude.{Ok}
use Rattle.std.specs.Ordering.{int_eq}
use Rattle.agxx_base.specs.declared.kind.NumKind.{NumKind}
use Rattle.agxx_base.specs.declared.kind.NumKind.TheVariants as num
use Rattle.cxx_tree.specs.declared.operator.BinOp.TheVariants as op
use Rattle.cxx_tree.specs.declared.operator.UnOp.TheVariants as un
use Rattle.cxx_arith.specs.declared.value.Value.{Value}
use Rattle.cxx_arith.specs.Kinds.{width}
use Rattle.cxx_arith.specs.Numbers.{modulo, number, flag, value_of, convert_of}
use Rattle.cxx_arith.proofs.Kept.{values_are_kept}
use Rattle.cxx_arith.specs.Arithmetic.{operand, apply_of, apply_one_of}
use Rattle.codec.specs.Part.{unsigned_kind}
use Rattle.hamming_laws.specs.Masks.{complement}
use Rattle.hamming_laws.specs.WordValues.{word_value, WordsAreValues}

kept : (a : ℕ) → a < 2 ^ 64 → (value_of num.U64 (operand num.U64 (word_value a))).bits ≡ a
kept a h = omega (arith, h)

xor : (a b : ℕ) → a < 2 ^ 64 → b < 2 ^ 64
    → apply_of op.BitXor (word_value a) (word_value b) ≡ Ok (word_value (bit_xor a b))
xor a b h g = ap₂ (λ x y. Ok (word_value (bit_xor x y))) (kept a h) (kept b g)

and : (a b : ℕ) → a < 2 ^ 64 → b < 2 ^ 64
    → apply_of op.BitAnd (word_value a) (word_value b) ≡ Ok (word_value (bit_and a b))
and a b h g = ap₂ (λ x y. Ok (word_value (bit_and x y))) (kept a h) (kept b g)

or : (a b : ℕ) → a < 2 ^ 64 → b < 2 ^ 64
    → apply_of op.BitOr (word_value a) (word_value b) ≡ Ok (word_value (bit_or a b))
or a b h g = ap₂ (λ x y. Ok (word_value (bit_or x y))) (kept a h) (kept b g)

complement-is : (a : ℕ) → a < 2 ^ 64 → apply_one_of un.Complement (word_value a) ≡ Ok (word_value (complement a))
complement-is a h = ap (λ x. Ok (word_value (complement x))) (let e : a % 2 ^ 64 ≡ a = omega (arith, h) in e)

zero-eq : (n : ℕ) → int_eq (pos n) (pos 0) ≡ nat_eq n 0
zero-eq zero = refl
zero-eq (suc n) = grind arith

not-zero : (a : ℕ) → a < 2 ^ 64
    → apply_of op.NotEqual (word_value a) (word_value 0) ≡ Ok (flag (not (nat_eq a 0)))
not-zero a h =
    let kept-so : a % 2 ^ 64 % 2 ^ 64 % 2 ^ 64 ≡ a = omega (arith, h) in
    ap (λ x. Ok (flag (not (int_eq (pos x) (pos 0))))) kept-so ∙ ap (λ b. Ok (flag (not b))) (zero-eq a)

-- ---- members

bits-kept : (k : NumKind) (b : ℕ) → b < 2 ^ width k → modulo (width k) (number (record { kind = k; bits = b })) ≡ b
bits-kept k b h = ap (λ (v : Value). v.bits) (values_are_kept (record { kind = k; bits = b }) h)

-- a value of a kind in the unsigned kind of its width
in-unsigned : (k : NumKind) (b : ℕ) → b < 2 ^ width k
    → convert_of (unsigned_kind k) (record { kind = k; bits = b }) ≡ record { kind = unsigned_kind k; bits = b }
in-unsigned num.Bool b h =
    let e : b % 2 % 2 ^ 8 ≡ b = omega (arith, h) in ap (λ x. record { kind = num.U8; bits = x }) e
in-unsigned num.I8 b h = ap (λ x. record { kind = num.U8; bits = x }) (bits-kept num.I8 b h)
in-unsigned num.U8 b h = ap (λ x. record { kind = num.U8; bits = x }) (bits-kept num.U8 b h)
in-unsigned num.I16 b h = ap (λ x. record { kind = num.U16; bits = x }) (bits-kept num.I16 b h)
in-unsigned num.U16 b h = ap (λ x. record { kind = num.U16; bits = x }) (bits-kept num.U16 b h)
in-unsigned num.I32 b h = ap (λ x. record { kind = num.U32; bits = x }) (bits-kept num.I32 b h)
in-unsigned num.U32 b h = ap (λ x. record { kind = num.U32; bits = x }) (bits-kept num.U32 b h)
in-unsigned num.I64 b h = ap (λ x. record { kind = num.U64; bits = x }) (bits-kept num.I64 b h)
in-unsigned num.U64 b h = ap (λ x. record { kind = num.U64; bits = x }) (bits-kept num.U64 b h)

-- and from there in 64 bits
widened : (k : NumKind) (b : ℕ) → b < 2 ^ width k
    → convert_of num.U64 (record { kind = unsigned_kind k; bits = b }) ≡ word_value b
widened num.Bool b h = let e : b % 2 ^ 8 % 2 ^ 64 ≡ b = omega (arith, h) in ap word_value e
widened num.I8 b h = let e : b % 2 ^ 8 % 2 ^ 64 ≡ b = omega (arith, h) in ap word_value e
widened num.U8 b h = let e : b % 2 ^ 8 % 2 ^ 64 ≡ b = omega (arith, h) in ap word_value e
widened num.I16 b h = let e : b % 2 ^ 16 % 2 ^ 64 ≡ b = omega (arith, h) in ap word_value e
widened num.U16 b h = let e : b % 2 ^ 16 % 2 ^ 64 ≡ b = omega (arith, h) in ap word_value e
widened num.I32 b h = let e : b % 2 ^ 32 % 2 ^ 64 ≡ b = omega (arith, h) in ap word_value e
widened num.U32 b h = let e : b % 2 ^ 32 % 2 ^ 64 ≡ b = omega (arith, h) in ap word_value e
widened num.I64 b h = let e : b % 2 ^ 64 % 2 ^ 64 ≡ b = omega (arith, h) in ap word_value e
widened num.U64 b h = let e : b % 2 ^ 64 % 2 ^ 64 ≡ b = omega (arith, h) in ap word_value e

extended-bits : (k : NumKind) (b : ℕ) → b < 2 ^ width k
    → convert_of num.U64 (convert_of (unsigned_kind k) (record { kind = k; bits = b })) ≡ word_value b
extended-bits k b h = ap (convert_of num.U64) (in-unsigned k b h) ∙ widened k b h

taken-back : (k : NumKind) (w : ℕ) → k ≢ num.Bool → w < 2 ^ width k
    → convert_of k (word_value w) ≡ record { kind = k; bits = w }
taken-back num.Bool w o h = absurd (o refl)
taken-back num.I8 w o h =
    let e : w % 2 ^ 64 % 2 ^ 8 ≡ w = omega (arith, h) in ap (λ x. record { kind = num.I8; bits = x }) e
taken-back num.U8 w o h =
    let e : w % 2 ^ 64 % 2 ^ 8 ≡ w = omega (arith, h) in ap (λ x. record { kind = num.U8; bits = x }) e
taken-back num.I16 w o h =
    let e : w % 2 ^ 64 % 2 ^ 16 ≡ w = omega (arith, h) in ap (λ x. record { kind = num.I16; bits = x }) e
taken-back num.U16 w o h =
    let e : w % 2 ^ 64 % 2 ^ 16 ≡ w = omega (arith, h) in ap (λ x. record { kind = num.U16; bits = x }) e
taken-back num.I32 w o h =
    let e : w % 2 ^ 64 % 2 ^ 32 ≡ w = omega (arith, h) in ap (λ x. record { kind = num.I32; bits = x }) e
taken-back num.U32 w o h =
    let e : w % 2 ^ 64 % 2 ^ 32 ≡ w = omega (arith, h) in ap (λ x. record { kind = num.U32; bits = x }) e
taken-back num.I64 w o h =
    let e : w % 2 ^ 64 % 2 ^ 64 ≡ w = omega (arith, h) in ap (λ x. record { kind = num.I64; bits = x }) e
taken-back num.U64 w o h =
    let e : w % 2 ^ 64 % 2 ^ 64 ≡ w = omega (arith, h) in ap (λ x. record { kind = num.U64; bits = x }) e

pub words-are-values : WordsAreValues
words-are-values = record {
  xor = xor;
  and = and;
  or = or;
  complement_is = complement-is;
  not_zero = not-zero;
  extended = λ value h. extended-bits value.kind value.bits h;
  taken_back = taken-back;
}
