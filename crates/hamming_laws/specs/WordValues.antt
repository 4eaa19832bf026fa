-- Words are the machine's values of 64 bits, and the operations on them are the machine's operators.
use Rattle.std.specs.Prelude.{◌≡◌, ◌≢◌, ℕ, ◌^◌, ◌<◌, not, nat_eq, bit_and, bit_or, bit_xor, Ok}
use Rattle.agxx_base.specs.declared.kind.NumKind.{NumKind}
use Rattle.agxx_base.specs.declared.kind.NumKind.TheVariants as num
use Rattle.cxx_tree.specs.declared.operator.BinOp.TheVariants as op
use Rattle.cxx_tree.specs.declared.operator.UnOp.TheVariants as un
use Rattle.cxx_arith.specs.declared.value.Value.{Value}
use Rattle.cxx_arith.specs.Kinds.{width}
use Rattle.cxx_arith.specs.Numbers.{flag, convert_of, IsInRange}
use Rattle.cxx_arith.specs.Arithmetic.{apply_of, apply_one_of}
use Rattle.codec.specs.Part.{unsigned_kind}
use Rattle.hamming_laws.specs.Masks.{complement}

abbrev pub word_value : ℕ → Value
word_value n = record { kind = num.U64; bits = n }

-- of numbers of 64 bits
pub record WordsAreValues : Type 0 where
  pub xor : (a b : ℕ) → a < 2 ^ 64 → b < 2 ^ 64
      → apply_of op.BitXor (word_value a) (word_value b) ≡ Ok (word_value (bit_xor a b))
  pub and : (a b : ℕ) → a < 2 ^ 64 → b < 2 ^ 64
      → apply_of op.BitAnd (word_value a) (word_value b) ≡ Ok (word_value (bit_and a b))
  pub or : (a b : ℕ) → a < 2 ^ 64 → b < 2 ^ 64
      → apply_of op.BitOr (word_value a) (word_value b) ≡ Ok (word_value (bit_or a b))
  pub complement_is : (a : ℕ) → a < 2 ^ 64 → apply_one_of un.Complement (word_value a) ≡ Ok (word_value (complement a))
  pub not_zero : (a : ℕ) → a < 2 ^ 64
      → apply_of op.NotEqual (word_value a) (word_value 0) ≡ Ok (flag (not (nat_eq a 0)))
  -- a member enters as the bits of its own width alone, also where it is below 0
  pub extended : (value : Value) → IsInRange value
      → convert_of num.U64 (convert_of (unsigned_kind value.kind) value) ≡ word_value value.bits
  -- and takes back a word that has no bit above them
  pub taken_back : (kind : NumKind) (w : ℕ) → kind ≢ num.Bool → w < 2 ^ width kind
      → convert_of kind (word_value w) ≡ record { kind = kind; bits = w }
