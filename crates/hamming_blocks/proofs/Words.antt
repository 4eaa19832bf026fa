-- Operators on words of 64 bits, as values of the machine.
use Rattle.std.proofs.Common.{◌≡◌, ℕ, ◌^◌, ◌<◌, not, nat_eq, bit_and, bit_or, bit_xor, Ok, ap, arith}
use Rattle.std.specs.Int.Bits.{and_lt}
use Rattle.std.proofs.lemmas.Nat.{or_lt, xor_lt}
use Rattle.std.proofs.lemmas.Int.{ints}
use Rattle.agxx_base.specs.declared.kind.NumKind.{NumKind}
use Rattle.agxx_base.specs.declared.kind.NumKind.TheVariants as num
use Rattle.cxx_tree.specs.declared.operator.BinOp.{BinOp}
use Rattle.cxx_tree.specs.declared.operator.BinOp.TheVariants as op
use Rattle.cxx_tree.specs.declared.operator.UnOp.TheVariants as un
use Rattle.cxx_arith.specs.Kinds.{width}
use Rattle.cxx_arith.specs.Numbers.{flag}
use Rattle.cxx_arith.specs.Arithmetic.{apply_one_of}
use Rattle.codec.specs.Part.{unsigned_kind}
use Rattle.step_machine.specs.declared.datum.Datum.{Datum}
use Rattle.step_machine.specs.declared.datum.Datum.TheVariants as datum
use Rattle.step_machine.specs.Data.{from_bits_of, bits_of, of_kind}
use Rattle.step_machine.specs.ActValues.{given, two_of}
use Rattle.hamming_laws.specs.Masks.{complement}
use Rattle.hamming_laws.specs.WordValues.{word_value}
use Rattle.hamming_laws.proofs.WordValues.{words-are-values}

-- a word as a value
abbrev pub word : ℕ → Datum
word n = from_bits_of num.U64 n

-- an operator that gives words of words
pub record IsWordOp (o : BinOp) (g : ℕ → ℕ → ℕ) : Type 0 where
  pub gives : (a b : ℕ) → a < 2 ^ 64 → b < 2 ^ 64 → two_of o (word a) (word b) ≡ Ok (word (g a b))
  pub under : (a b : ℕ) → a < 2 ^ 64 → b < 2 ^ 64 → g a b < 2 ^ 64

pub word-and : IsWordOp op.BitAnd bit_and
word-and = record {
  gives = λ a b p q. ap given (words-are-values.and a b p q);
  under = λ a b p q. and_lt 64 a b p q;
}

pub word-or : IsWordOp op.BitOr bit_or
word-or = record {
  gives = λ a b p q. ap given (words-are-values.or a b p q);
  under = λ a b p q. or_lt 64 a b p q;
}

pub word-xor : IsWordOp op.BitXor bit_xor
word-xor = record {
  gives = λ a b p q. ap given (words-are-values.xor a b p q);
  under = λ a b p q. xor_lt 64 a b p q;
}

pub word-complement : (n : ℕ) → n < 2 ^ 64
    → given (apply_one_of un.Complement (word_value n)) ≡ Ok (word (complement n))
word-complement n h = ap given (words-are-values.complement_is n h)

-- `n != 0`
pub word-differs : (n : ℕ) → n < 2 ^ 64
    → two_of op.NotEqual (word n) (word 0) ≡ Ok (datum.Number (flag (not (nat_eq n 0))))
word-differs n h = ap given (words-are-values.not_zero n h)

-- a value of any kind, as one of the unsigned kind and then as a word
pub extended-is : (k : NumKind) (n : ℕ) → n < 2 ^ width k
    → of_kind num.U64 (of_kind (unsigned_kind k) (from_bits_of k n)) ≡ word n
extended-is k n h = ap datum.Number (words-are-values.extended (record { kind = k; bits = n }) h)

-- the bits that are put in a word of some kind
pub put-bits : (k : NumKind) (n : ℕ) → n < 2 ^ width k → bits_of k (word n) ≡ n
put-bits num.Bool n h = grind (arith, ints)
put-bits num.I8 n h = grind (arith, ints)
put-bits num.U8 n h = grind (arith, ints)
put-bits num.I16 n h = grind (arith, ints)
put-bits num.U16 n h = grind (arith, ints)
put-bits num.I32 n h = grind (arith, ints)
put-bits num.U32 n h = grind (arith, ints)
put-bits num.I64 n h = grind (arith, ints)
put-bits num.U64 n h = grind (arith, ints)

-- a word of a word's type
pub word-stays : (n : ℕ) → n < 2 ^ 64 → of_kind num.U64 (word n) ≡ word n
word-stays n h = ap word (put-bits num.U64 n h)

-- what fits a kind is a word
pub fits-word : (k : NumKind) (n : ℕ) → n < 2 ^ width k → n < 2 ^ 64
fits-word num.Bool n h = omega arith
fits-word num.I8 n h = omega arith
fits-word num.U8 n h = omega arith
fits-word num.I16 n h = omega arith
fits-word num.U16 n h = omega arith
fits-word num.I32 n h = omega arith
fits-word num.U32 n h = omega arith
fits-word num.I64 n h = omega arith
fits-word num.U64 n h = omega arith
