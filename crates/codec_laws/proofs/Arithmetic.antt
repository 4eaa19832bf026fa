-- What the operators of generated statements give: bits of the operands, whatever kinds they are promoted to.
use Rattle.std.proofs.Common.{◌≡◌, ℕ, ◌^◌, ◌<◌, false, bit_and, bit_or, Ok, refl, ap, ap₂, ◌∙◌, arith}
use Rattle.std.proofs.lemmas.Int.{ints}
use Rattle.agxx_base.specs.declared.kind.NumKind.{NumKind}
use Rattle.agxx_base.specs.declared.kind.NumKind.TheVariants as num
use Rattle.cxx_tree.specs.declared.operator.BinOp.TheVariants as op
use Rattle.cxx_arith.specs.Kinds.{width, is_signed, common_kind}
use Rattle.cxx_arith.specs.Numbers.{number, value_of, convert_of}
use Rattle.cxx_arith.specs.declared.value.Value.{Value}
use Rattle.cxx_arith.specs.Arithmetic.{apply_of}
use Rattle.codec.specs.Part.{unsigned_kind}

abbrev pub value : NumKind → ℕ → Value
value k bits = record { kind = k; bits = bits }

-- the bits of an operand that is converted to a kind which is as wide at least
abbrev IsWithin : NumKind → NumKind → Type 0
IsWithin from to = (bits : ℕ) → bits < 2 ^ width from
    → (value_of to (number (convert_of to (value from bits)))).bits ≡ bits

small-bool : IsWithin num.Bool num.I32
small-bool bits h = grind (arith, ints)

small-8 : IsWithin num.U8 num.I32
small-8 bits h = grind (arith, ints)

small-16 : IsWithin num.U16 num.I32
small-16 bits h = grind (arith, ints)

small-32 : IsWithin num.U32 num.U32
small-32 bits h = grind (arith, ints)

small-64 : IsWithin num.U64 num.U64
small-64 bits h = grind (arith, ints)

-- `a & b`, of an unsigned kind
pub and-of : (u : NumKind) (a b : ℕ) → is_signed u ≡ false → a < 2 ^ width u → b < 2 ^ width u
    → apply_of op.BitAnd (value u a) (value u b) ≡ Ok (value (common_kind u u) (bit_and a b))
and-of num.Bool a b s p q = ap₂ (λ x y. Ok (value num.I32 (bit_and x y))) (small-bool a p) (small-bool b q)
and-of num.U8 a b s p q = ap₂ (λ x y. Ok (value num.I32 (bit_and x y))) (small-8 a p) (small-8 b q)
and-of num.U16 a b s p q = ap₂ (λ x y. Ok (value num.I32 (bit_and x y))) (small-16 a p) (small-16 b q)
and-of num.U32 a b s p q = ap₂ (λ x y. Ok (value num.U32 (bit_and x y))) (small-32 a p) (small-32 b q)
and-of num.U64 a b s p q = ap₂ (λ x y. Ok (value num.U64 (bit_and x y))) (small-64 a p) (small-64 b q)
and-of num.I8 a b s p q = absurd (cc)
and-of num.I16 a b s p q = absurd (cc)
and-of num.I32 a b s p q = absurd (cc)
and-of num.I64 a b s p q = absurd (cc)

-- promoted operands whose bits fit the unsigned kind
abbrev IsKept : NumKind → NumKind → Type 0
IsKept u p = (bits : ℕ) → bits < 2 ^ width u → (value_of p (number (convert_of p (value p bits)))).bits ≡ bits

kept-bool : IsKept num.Bool num.I32
kept-bool bits h = grind (arith, ints)

kept-8 : IsKept num.U8 num.I32
kept-8 bits h = grind (arith, ints)

kept-16 : IsKept num.U16 num.I32
kept-16 bits h = grind (arith, ints)

-- `a | b`, of operands that were promoted
pub or-of : (u : NumKind) (a b : ℕ) → is_signed u ≡ false → a < 2 ^ width u → b < 2 ^ width u
    → apply_of op.BitOr (value (common_kind u u) a) (value (common_kind u u) b)
    ≡ Ok (value (common_kind u u) (bit_or a b))
or-of num.Bool a b s p q = ap₂ (λ x y. Ok (value num.I32 (bit_or x y))) (kept-bool a p) (kept-bool b q)
or-of num.U8 a b s p q = ap₂ (λ x y. Ok (value num.I32 (bit_or x y))) (kept-8 a p) (kept-8 b q)
or-of num.U16 a b s p q = ap₂ (λ x y. Ok (value num.I32 (bit_or x y))) (kept-16 a p) (kept-16 b q)
or-of num.U32 a b s p q = ap₂ (λ x y. Ok (value num.U32 (bit_or x y))) (small-32 a p) (small-32 b q)
or-of num.U64 a b s p q = ap₂ (λ x y. Ok (value num.U64 (bit_or x y))) (small-64 a p) (small-64 b q)
or-of num.I8 a b s p q = absurd (cc)
or-of num.I16 a b s p q = absurd (cc)
or-of num.I32 a b s p q = absurd (cc)
or-of num.I64 a b s p q = absurd (cc)

-- ---- conversions between a kind and the unsigned kind of its width

pub unsigned : (k : NumKind) → is_signed (unsigned_kind k) ≡ false
unsigned num.Bool = refl
unsigned num.I8 = refl
unsigned num.U8 = refl
unsigned num.I16 = refl
unsigned num.U16 = refl
unsigned num.I32 = refl
unsigned num.U32 = refl
unsigned num.I64 = refl
unsigned num.U64 = refl

pub wider : (k : NumKind) (bits : ℕ) → bits < 2 ^ width k → bits < 2 ^ width (unsigned_kind k)
wider num.Bool bits h = omega arith
wider num.I8 bits h = omega arith
wider num.U8 bits h = omega arith
wider num.I16 bits h = omega arith
wider num.U16 bits h = omega arith
wider num.I32 bits h = omega arith
wider num.U32 bits h = omega arith
wider num.I64 bits h = omega arith
wider num.U64 bits h = omega arith

in-kind : (k : NumKind) (v : Value) → convert_of (unsigned_kind k) v
    ≡ value (unsigned_kind k) ((convert_of (unsigned_kind k) v).bits)
in-kind num.Bool v = refl
in-kind num.I8 v = refl
in-kind num.U8 v = refl
in-kind num.I16 v = refl
in-kind num.U16 v = refl
in-kind num.I32 v = refl
in-kind num.U32 v = refl
in-kind num.I64 v = refl
in-kind num.U64 v = refl

to-bits : (k : NumKind) (bits : ℕ) → bits < 2 ^ width k → (convert_of (unsigned_kind k) (value k bits)).bits ≡ bits
to-bits num.Bool bits h = grind (arith, ints)
to-bits num.I8 bits h = grind (arith, ints)
to-bits num.U8 bits h = grind (arith, ints)
to-bits num.I16 bits h = grind (arith, ints)
to-bits num.U16 bits h = grind (arith, ints)
to-bits num.I32 bits h = grind (arith, ints)
to-bits num.U32 bits h = grind (arith, ints)
to-bits num.I64 bits h = grind (arith, ints)
to-bits num.U64 bits h = grind (arith, ints)

local-bits : (k : NumKind) (bits : ℕ) → bits < 2 ^ width (unsigned_kind k)
    → (convert_of (unsigned_kind k) (value (common_kind (unsigned_kind k) (unsigned_kind k)) bits)).bits ≡ bits
local-bits num.Bool bits h = grind (arith, ints)
local-bits num.I8 bits h = grind (arith, ints)
local-bits num.U8 bits h = grind (arith, ints)
local-bits num.I16 bits h = grind (arith, ints)
local-bits num.U16 bits h = grind (arith, ints)
local-bits num.I32 bits h = grind (arith, ints)
local-bits num.U32 bits h = grind (arith, ints)
local-bits num.I64 bits h = grind (arith, ints)
local-bits num.U64 bits h = grind (arith, ints)

-- a value of a kind, as one of the unsigned kind
pub to-unsigned : (k : NumKind) (bits : ℕ) → bits < 2 ^ width k → convert_of (unsigned_kind k) (value k bits)
    ≡ value (unsigned_kind k) bits
to-unsigned k bits h = in-kind k (value k bits) ∙ ap (value (unsigned_kind k)) (to-bits k bits h)

-- a promoted one, as one of the unsigned kind
pub to-local : (k : NumKind) (bits : ℕ) → bits < 2 ^ width (unsigned_kind k)
    → convert_of (unsigned_kind k) (value (common_kind (unsigned_kind k) (unsigned_kind k)) bits)
    ≡ value (unsigned_kind k) bits
to-local k bits h =
    in-kind k (value (common_kind (unsigned_kind k) (unsigned_kind k)) bits)
    ∙ ap (value (unsigned_kind k)) (local-bits k bits h)

-- the bits that are put in a word: of the kind from its unsigned kind, of the unsigned kind from both
pub from-unsigned : (k : NumKind) (bits : ℕ) → bits < 2 ^ width k
    → (convert_of k (value (unsigned_kind k) bits)).bits ≡ bits
from-unsigned num.Bool bits h = grind (arith, ints)
from-unsigned num.I8 bits h = grind (arith, ints)
from-unsigned num.U8 bits h = grind (arith, ints)
from-unsigned num.I16 bits h = grind (arith, ints)
from-unsigned num.U16 bits h = grind (arith, ints)
from-unsigned num.I32 bits h = grind (arith, ints)
from-unsigned num.U32 bits h = grind (arith, ints)
from-unsigned num.I64 bits h = grind (arith, ints)
from-unsigned num.U64 bits h = grind (arith, ints)

pub in-unsigned : (k : NumKind) (bits : ℕ) → bits < 2 ^ width (unsigned_kind k)
    → (convert_of (unsigned_kind k) (value (unsigned_kind k) bits)).bits ≡ bits
in-unsigned num.Bool bits h = grind (arith, ints)
in-unsigned num.I8 bits h = grind (arith, ints)
in-unsigned num.U8 bits h = grind (arith, ints)
in-unsigned num.I16 bits h = grind (arith, ints)
in-unsigned num.U16 bits h = grind (arith, ints)
in-unsigned num.I32 bits h = grind (arith, ints)
in-unsigned num.U32 bits h = grind (arith, ints)
in-unsigned num.I64 bits h = grind (arith, ints)
in-unsigned num.U64 bits h = grind (arith, ints)
