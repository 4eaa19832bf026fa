-- A kind's numbers and the values in its range are the same things.
use Rattle.std.proofs.Common.{◌≡◌, ℕ, ◌%◌, ◌^◌, ◌<◌, pos, negsuc, ap, arith}
use Rattle.std.proofs.lemmas.Int.{ints}
use Rattle.agxx_base.specs.declared.kind.NumKind.{NumKind}
use Rattle.agxx_base.specs.declared.kind.NumKind.TheVariants as num
use Rattle.cxx_arith.specs.Kinds.{width}
use Rattle.cxx_arith.specs.Numbers.{modulo, number_of}
use Rattle.cxx_arith.specs.Laws.{NumbersAreKept, ValuesAreKept}

pub numbers_are_kept : NumbersAreKept
numbers_are_kept num.Bool (pos n) h = grind (arith, ints)
numbers_are_kept num.Bool (negsuc n) h = grind (arith, ints)
numbers_are_kept num.I8 (pos n) h = grind (arith, ints)
numbers_are_kept num.I8 (negsuc n) h = grind (arith, ints)
numbers_are_kept num.U8 (pos n) h = grind (arith, ints)
numbers_are_kept num.U8 (negsuc n) h = grind (arith, ints)
numbers_are_kept num.I16 (pos n) h = grind (arith, ints)
numbers_are_kept num.I16 (negsuc n) h = grind (arith, ints)
numbers_are_kept num.U16 (pos n) h = grind (arith, ints)
numbers_are_kept num.U16 (negsuc n) h = grind (arith, ints)
numbers_are_kept num.I32 (pos n) h = grind (arith, ints)
numbers_are_kept num.I32 (negsuc n) h = grind (arith, ints)
numbers_are_kept num.U32 (pos n) h = grind (arith, ints)
numbers_are_kept num.U32 (negsuc n) h = grind (arith, ints)
numbers_are_kept num.I64 (pos n) h = grind (arith, ints)
numbers_are_kept num.I64 (negsuc n) h = grind (arith, ints)
numbers_are_kept num.U64 (pos n) h = grind (arith, ints)
numbers_are_kept num.U64 (negsuc n) h = grind (arith, ints)

bits_are_kept : (kind : NumKind) (bits : ℕ) → bits < 2 ^ width kind → modulo (width kind) (number_of kind (bits % 2 ^ width kind)) ≡ bits
bits_are_kept num.Bool bits h = grind (arith, ints)
bits_are_kept num.I8 bits h = grind (arith, ints)
bits_are_kept num.U8 bits h = grind (arith, ints)
bits_are_kept num.I16 bits h = grind (arith, ints)
bits_are_kept num.U16 bits h = grind (arith, ints)
bits_are_kept num.I32 bits h = grind (arith, ints)
bits_are_kept num.U32 bits h = grind (arith, ints)
bits_are_kept num.I64 bits h = grind (arith, ints)
bits_are_kept num.U64 bits h = grind (arith, ints)

pub values_are_kept : ValuesAreKept
values_are_kept value h = ap (λ b. record value { bits = b }) (bits_are_kept value.kind value.bits h)
