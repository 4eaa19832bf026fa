-- What each operator gives, over whole numbers.
use Rattle.std.specs.Prelude.{ℕ, ◌-◌, ◌^◌, Bool, true, false, not, ◌&&◌, if◌then◌else◌, bit_and, bit_or, bit_xor, Result, Ok, Err, ℤ, pos, negsuc, ◌+ℤ◌, ◌-ℤ◌, ◌*ℤ◌, neg_ℤ, int_lt, int_le, unsigned_abs, int_div, int_rem}
use Rattle.std.specs.Int.{int_shr}
use Rattle.std.specs.Ordering.{int_eq}
use Rattle.agxx_base.specs.declared.kind.NumKind.{NumKind}
use Rattle.cxx_tree.specs.declared.operator.BinOp.{BinOp}
use Rattle.cxx_tree.specs.declared.operator.BinOp.TheVariants as op
use Rattle.cxx_tree.specs.declared.operator.UnOp.{UnOp}
use Rattle.cxx_tree.specs.declared.operator.UnOp.TheVariants as un
use Rattle.cxx_arith.specs.declared.value.Value.{Value}
use Rattle.cxx_arith.specs.declared.value.ArithStop.{ArithStop}
use Rattle.cxx_arith.specs.declared.value.ArithStop.TheVariants.{Overflow, ZeroDivisor, Shift}
use Rattle.cxx_arith.specs.Kinds.{width, is_signed, promoted, common_kind}
use Rattle.cxx_arith.specs.Numbers.{number, value_of, flag, convert_of}

-- the least number of a signed kind
abbrev pub least : NumKind → ℤ
least kind = neg_ℤ (pos (2 ^ (width kind - 1)))

-- whether a signed kind has the number
abbrev pub is_held : NumKind → ℤ → Bool
is_held kind z = int_le (least kind) z && int_lt z (pos (2 ^ (width kind - 1)))

-- a result, which a signed kind has to hold and an unsigned one takes modulo 2^N
abbrev pub held_in : NumKind → ℤ → Result Value ArithStop
held_in kind z = if is_signed kind && not (is_held kind z) then Err Overflow else Ok (value_of kind z)

-- ---- two numbers of one kind

-- rounded toward zero
abbrev pub quotient : NumKind → ℤ → ℤ → Result Value ArithStop
quotient kind a b = if int_eq b (pos 0) then Err ZeroDivisor else held_in kind (int_div a b)

abbrev pub is_least_by_minus_one : NumKind → ℤ → ℤ → Bool
is_least_by_minus_one kind a b = is_signed kind && (int_eq a (least kind) && int_eq b (negsuc 0))

-- with the sign of the dividend
abbrev pub remainder : NumKind → ℤ → ℤ → Result Value ArithStop
remainder kind a b =
    if int_eq b (pos 0) then Err ZeroDivisor
    else (if is_least_by_minus_one kind a b then Err Overflow else Ok (value_of kind (int_rem a b)))

-- bit by bit
abbrev pub bitwise : (ℕ → ℕ → ℕ) → NumKind → ℤ → ℤ → Result Value ArithStop
bitwise f kind a b = Ok (record { kind = kind; bits = f (value_of kind a).bits (value_of kind b).bits })

-- ---- operands

-- the number of an operand that is converted to a kind
abbrev pub operand : NumKind → Value → ℤ
operand kind value = number (convert_of kind value)

-- an operator on two operands that are converted to their common kind
abbrev pub in_common : (NumKind → ℤ → ℤ → Result Value ArithStop) → Value → Value → Result Value ArithStop
in_common f left right =
    f (common_kind left.kind right.kind) (operand (common_kind left.kind right.kind) left) (operand (common_kind left.kind right.kind) right)

abbrev pub compared : (ℤ → ℤ → Bool) → Value → Value → Result Value ArithStop
compared test left right = in_common (λ kind a b. Ok (flag (test a b))) left right

-- whether numbers of the kind can be shifted so far
abbrev pub is_count : NumKind → ℤ → Bool
is_count kind count = int_le (pos 0) count && int_lt count (pos (width kind))

-- a shift by a count, in the kind of the promoted left side
abbrev pub shifted : (ℤ → ℕ → ℤ) → Value → Value → Result Value ArithStop
shifted f left right =
    if is_count (promoted left.kind) (number right)
    then Ok (value_of (promoted left.kind) (f (number left) (unsigned_abs (number right))))
    else Err Shift

-- ---- the operators

-- `&&` and `||` evaluate their right side only where needed, and unary `&` is of an object: they are no arithmetic, and
-- what stands for them below is never asked
abbrev pub is_arithmetic : BinOp → Bool
is_arithmetic op.Or = false
is_arithmetic op.And = false
is_arithmetic _ = true

abbrev pub is_arithmetic_one : UnOp → Bool
is_arithmetic_one un.AddressOf = false
is_arithmetic_one _ = true

abbrev pub apply_of : BinOp → Value → Value → Result Value ArithStop
apply_of op.BitOr left right = in_common (bitwise bit_or) left right
apply_of op.BitXor left right = in_common (bitwise bit_xor) left right
apply_of op.BitAnd left right = in_common (bitwise bit_and) left right
apply_of op.Equal left right = compared int_eq left right
apply_of op.NotEqual left right = compared (λ a b. not (int_eq a b)) left right
apply_of op.Less left right = compared int_lt left right
apply_of op.LessEqual left right = compared int_le left right
apply_of op.Greater left right = compared (λ a b. int_lt b a) left right
apply_of op.GreaterEqual left right = compared (λ a b. int_le b a) left right
apply_of op.ShiftLeft left right = shifted (λ a count. a *ℤ pos (2 ^ count)) left right
apply_of op.ShiftRight left right = shifted int_shr left right
apply_of op.Add left right = in_common (λ kind a b. held_in kind (a +ℤ b)) left right
apply_of op.Subtract left right = in_common (λ kind a b. held_in kind (a -ℤ b)) left right
apply_of op.Multiply left right = in_common (λ kind a b. held_in kind (a *ℤ b)) left right
apply_of op.Divide left right = in_common quotient left right
apply_of op.Remainder left right = in_common remainder left right
apply_of op.Or left right = Err Overflow
apply_of op.And left right = Err Overflow

abbrev pub apply_one_of : UnOp → Value → Result Value ArithStop
apply_one_of un.Negate arg = held_in (promoted arg.kind) (neg_ℤ (number arg))
apply_one_of un.Not arg = Ok (flag (int_eq (number arg) (pos 0)))
apply_one_of un.Complement arg = Ok (value_of (promoted arg.kind) (neg_ℤ (number arg) -ℤ pos 1))
apply_one_of un.AddressOf arg = Err Overflow
