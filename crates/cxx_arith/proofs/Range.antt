-- What operators give is in the range of its kind.
use Rattle.std.proofs.Common.{ℕ, ◌^◌, ◌<◌, Bool, true, false, ℤ, pos, negsuc, arith, IfOk}
use Rattle.std.specs.Prelude.{Result, Ok, Err, if◌then◌else◌, bit_and, bit_or, bit_xor, ◌-ℤ◌, ◌+ℤ◌, ◌*ℤ◌, neg_ℤ, int_rem, int_div, not, ◌&&◌, unsigned_abs, int_lt, int_le}
use Rattle.std.specs.Int.{int_shr}
use Rattle.std.specs.Ordering.{int_eq}
use Rattle.std.proofs.lemmas.Nat.{pow_pos, mod_below, and_le_l, or_lt, xor_lt}
use Rattle.agxx_base.specs.declared.kind.NumKind.{NumKind}
use Rattle.agxx_base.specs.declared.kind.NumKind.TheVariants as num
use Rattle.cxx_tree.specs.declared.operator.BinOp.{BinOp}
use Rattle.cxx_tree.specs.declared.operator.BinOp.TheVariants as op
use Rattle.cxx_tree.specs.declared.operator.UnOp.{UnOp}
use Rattle.cxx_tree.specs.declared.operator.UnOp.TheVariants as un
use Rattle.cxx_arith.specs.declared.value.Value.{Value}
use Rattle.cxx_arith.specs.declared.value.ArithStop.{ArithStop}
use Rattle.cxx_arith.specs.declared.value.ArithStop.TheVariants.{Overflow, ZeroDivisor, Shift}
use Rattle.cxx_arith.specs.Kinds.{width, is_signed, promoted}
use Rattle.cxx_arith.specs.Numbers.{modulo, number, value_of, flag, convert_of, IsInRange}
use Rattle.cxx_arith.specs.Arithmetic.{held_in, is_held, quotient, remainder, is_least_by_minus_one, bitwise, shifted, is_count, in_common, compared, apply_of, apply_one_of}

modulo_below : (n : ℕ) (z : ℤ) → modulo n z < 2 ^ n
modulo_below n (pos a) = mod_below a (2 ^ n) (pow_pos n)
modulo_below n (negsuc a) = omega (arith, pow_pos n)

pub value_in_range : (kind : NumKind) (z : ℤ) → IsInRange (value_of kind z)
value_in_range kind z = modulo_below (width kind) z

pub flag_in_range : (b : Bool) → IsInRange (flag b)
flag_in_range true = omega arith
flag_in_range false = omega arith

held_in_range : (kind : NumKind) (z : ℤ) → IfOk (held_in kind z) IsInRange
held_in_range kind z =
    elim (is_signed kind && not (is_held kind z)) as (λ b. IfOk (if b then Err Overflow else Ok (value_of kind z)) IsInRange)
    [ true ↦ tt | false ↦ value_in_range kind z ]

quotient_in_range : (kind : NumKind) (a b : ℤ) → IfOk (quotient kind a b) IsInRange
quotient_in_range kind a b =
    elim (int_eq b (pos 0)) as (λ t. IfOk (if t then Err ZeroDivisor else held_in kind (int_div a b)) IsInRange)
    [ true ↦ tt | false ↦ held_in_range kind (int_div a b) ]

remainder_if : (zero_divisor least : Bool) (kind : NumKind) (z : ℤ)
    → IfOk (if zero_divisor then Err ZeroDivisor else (if least then Err Overflow else Ok (value_of kind z))) IsInRange
remainder_if true least kind z = tt
remainder_if false true kind z = tt
remainder_if false false kind z = value_in_range kind z

remainder_in_range : (kind : NumKind) (a b : ℤ) → IfOk (remainder kind a b) IsInRange
remainder_in_range kind a b = remainder_if (int_eq b (pos 0)) (is_least_by_minus_one kind a b) kind (int_rem a b)

and_in_range : (kind : NumKind) (a b : ℤ) → IfOk (bitwise bit_and kind a b) IsInRange
and_in_range kind a b = omega (arith, and_le_l (modulo (width kind) a) (modulo (width kind) b), modulo_below (width kind) a)

or_in_range : (kind : NumKind) (a b : ℤ) → IfOk (bitwise bit_or kind a b) IsInRange
or_in_range kind a b = or_lt (width kind) _ _ (modulo_below (width kind) a) (modulo_below (width kind) b)

xor_in_range : (kind : NumKind) (a b : ℤ) → IfOk (bitwise bit_xor kind a b) IsInRange
xor_in_range kind a b = xor_lt (width kind) _ _ (modulo_below (width kind) a) (modulo_below (width kind) b)

shifted_if : (fits : Bool) (kind : NumKind) (z : ℤ) → IfOk (if fits then Ok (value_of kind z) else Err Shift) IsInRange
shifted_if true kind z = value_in_range kind z
shifted_if false kind z = tt

shifted_in_range : (f : ℤ → ℕ → ℤ) (left right : Value) → IfOk (shifted f left right) IsInRange
shifted_in_range f left right =
    shifted_if (is_count (promoted left.kind) (number right)) (promoted left.kind) (f (number left) (unsigned_abs (number right)))

in_common_range : (f : NumKind → ℤ → ℤ → Result Value ArithStop) → ((kind : NumKind) (a b : ℤ) → IfOk (f kind a b) IsInRange)
    → (left right : Value) → IfOk (in_common f left right) IsInRange
in_common_range f each left right = each _ _ _

compared_in_range : (test : ℤ → ℤ → Bool) (left right : Value) → IfOk (compared test left right) IsInRange
compared_in_range test left right = flag_in_range _

pub apply_in_range : (o : BinOp) (left right : Value) → IfOk (apply_of o left right) IsInRange
apply_in_range op.Or l r = tt
apply_in_range op.And l r = tt
apply_in_range op.BitOr l r = in_common_range (bitwise bit_or) or_in_range l r
apply_in_range op.BitXor l r = in_common_range (bitwise bit_xor) xor_in_range l r
apply_in_range op.BitAnd l r = in_common_range (bitwise bit_and) and_in_range l r
apply_in_range op.Equal l r = compared_in_range int_eq l r
apply_in_range op.NotEqual l r = compared_in_range (λ a b. not (int_eq a b)) l r
apply_in_range op.Less l r = compared_in_range int_lt l r
apply_in_range op.LessEqual l r = compared_in_range int_le l r
apply_in_range op.Greater l r = compared_in_range (λ a b. int_lt b a) l r
apply_in_range op.GreaterEqual l r = compared_in_range (λ a b. int_le b a) l r
apply_in_range op.ShiftLeft l r = shifted_in_range (λ a count. a *ℤ pos (2 ^ count)) l r
apply_in_range op.ShiftRight l r = shifted_in_range int_shr l r
apply_in_range op.Add l r = in_common_range (λ kind a b. held_in kind (a +ℤ b)) (λ kind a b. held_in_range kind (a +ℤ b)) l r
apply_in_range op.Subtract l r = in_common_range (λ kind a b. held_in kind (a -ℤ b)) (λ kind a b. held_in_range kind (a -ℤ b)) l r
apply_in_range op.Multiply l r = in_common_range (λ kind a b. held_in kind (a *ℤ b)) (λ kind a b. held_in_range kind (a *ℤ b)) l r
apply_in_range op.Divide l r = in_common_range quotient quotient_in_range l r
apply_in_range op.Remainder l r = in_common_range remainder remainder_in_range l r

pub apply_one_in_range : (o : UnOp) (arg : Value) → IfOk (apply_one_of o arg) IsInRange
apply_one_in_range un.Negate arg = held_in_range (promoted arg.kind) (neg_ℤ (number arg))
apply_one_in_range un.Not arg = flag_in_range _
apply_one_in_range un.Complement arg = value_in_range (promoted arg.kind) (neg_ℤ (number arg) -ℤ pos 1)
apply_one_in_range un.AddressOf arg = tt

pub convert_in_range : (kind : NumKind) (v : Value) → IsInRange (convert_of kind v)
convert_in_range num.Bool v = flag_in_range _
convert_in_range num.I8 v = value_in_range num.I8 (number v)
convert_in_range num.U8 v = value_in_range num.U8 (number v)
convert_in_range num.I16 v = value_in_range num.I16 (number v)
convert_in_range num.U16 v = value_in_range num.U16 (number v)
convert_in_range num.I32 v = value_in_range num.I32 (number v)
convert_in_range num.U32 v = value_in_range num.U32 (number v)
convert_in_range num.I64 v = value_in_range num.I64 (number v)
convert_in_range num.U64 v = value_in_range num.U64 (number v)
