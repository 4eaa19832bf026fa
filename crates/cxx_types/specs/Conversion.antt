-- Which types a value has, converts to and may have where it stands.
use Rattle.std.specs.Prelude.{Bool, true, false, Option, Some, None, if◌then◌else◌}
use Rattle.agxx_base.specs.declared.kind.NumKind.{NumKind}
use Rattle.agxx_base.specs.declared.kind.NumKind.TheVariants as num
use Rattle.agxx_base.specs.declared.ids.ClassId.{ClassId}
use Rattle.cxx_tree.specs.declared.operator.BinOp.{BinOp}
use Rattle.cxx_tree.specs.declared.operator.BinOp.TheVariants as op
use Rattle.cxx_tree.specs.declared.operator.UnOp.{UnOp}
use Rattle.cxx_tree.specs.declared.operator.UnOp.TheVariants as un
use Rattle.cxx_types.specs.declared.conversion.Operands.{Operands}
use Rattle.cxx_types.specs.declared.conversion.Operands.TheVariants as operands
use Rattle.cxx_arith.specs.Kinds.{promoted, common_kind}
use Rattle.cxx_names.specs.declared.declarations.Declared.{Declared}
use Rattle.cxx_names.specs.declared.types.ValueType.{ValueType}
use Rattle.cxx_names.specs.declared.types.ValueType.TheVariants as value
use Rattle.cxx_names.specs.LookUp.{derives}

-- A number converts to every number, `nullptr` to every pointer, and a pointer to one to a class above its own.
abbrev pub converts : Declared → ValueType → ValueType → Bool
converts d (value.Number a) (value.Number b) = true
converts d value.Null (value.Pointer to) = true
converts d value.Null value.Null = true
converts d (value.Pointer class) (value.Pointer to) = derives d class to
converts d _ _ = false

-- a rule on types speaks only of what has a type
abbrev pub may_convert : Declared → Option ValueType → Option ValueType → Bool
may_convert d (Some a) (Some b) = converts d a b
may_convert d _ _ = true

-- two numbers, or two pointers of which one converts to the other's type
abbrev pub compares : Declared → ValueType → ValueType → Bool
compares d (value.Number a) (value.Number b) = true
compares d (value.Number a) _ = false
compares d _ (value.Number b) = false
compares d a b = if converts d a b then true else converts d b a

abbrev pub is_number : ValueType → Bool
is_number (value.Number kind) = true
is_number _ = false

-- a number, or what has no type
abbrev pub may_be_number : Option ValueType → Bool
may_be_number None = true
may_be_number (Some t) = is_number t

-- numbers of more than 8 bits, and `bool`, are printed
abbrev pub may_be_printed : Option ValueType → Bool
may_be_printed None = true
may_be_printed (Some (value.Number num.I8)) = false
may_be_printed (Some (value.Number num.U8)) = false
may_be_printed (Some t) = is_number t

-- `++` and `--` are for numbers but `bool`
abbrev pub may_be_bumped : Option ValueType → Bool
may_be_bumped None = true
may_be_bumped (Some (value.Number num.Bool)) = false
may_be_bumped (Some t) = is_number t

-- ---- operators

abbrev pub operands_of : BinOp → Operands
operands_of op.Or = operands.Logic
operands_of op.And = operands.Logic
operands_of op.BitOr = operands.Arithmetic
operands_of op.BitXor = operands.Arithmetic
operands_of op.BitAnd = operands.Arithmetic
operands_of op.Equal = operands.Equality
operands_of op.NotEqual = operands.Equality
operands_of op.Less = operands.Order
operands_of op.LessEqual = operands.Order
operands_of op.Greater = operands.Order
operands_of op.GreaterEqual = operands.Order
operands_of op.ShiftLeft = operands.Shift
operands_of op.ShiftRight = operands.Shift
operands_of op.Add = operands.Arithmetic
operands_of op.Subtract = operands.Arithmetic
operands_of op.Multiply = operands.Arithmetic
operands_of op.Divide = operands.Arithmetic
operands_of op.Remainder = operands.Arithmetic

abbrev pub are_numbers : Option ValueType → Option ValueType → Bool
are_numbers a b = if may_be_number a then may_be_number b else false

abbrev pub may_compare : Declared → Option ValueType → Option ValueType → Bool
may_compare d (Some a) (Some b) = compares d a b
may_compare d _ _ = true

abbrev pub takes_by : Declared → Operands → Option ValueType → Option ValueType → Bool
takes_by d operands.Arithmetic a b = are_numbers a b
takes_by d operands.Shift a b = are_numbers a b
takes_by d operands.Order a b = are_numbers a b
takes_by d operands.Equality a b = may_compare d a b
takes_by d operands.Logic a b = true

-- whether an operator takes operands of these types, as far as they have types
abbrev pub takes : Declared → BinOp → Option ValueType → Option ValueType → Bool
takes d o a b = takes_by d (operands_of o) a b

abbrev pub truth : ValueType
truth = value.Number num.Bool

-- the kinds of two numbers
abbrev pub number_kinds : Option ValueType → Option ValueType → Option (NumKind × NumKind)
number_kinds (Some (value.Number a)) (Some (value.Number b)) = Some (a, b)
number_kinds _ _ = None

abbrev pub number_by : (NumKind → NumKind → NumKind) → Option (NumKind × NumKind) → Option ValueType
number_by kind None = None
number_by kind (Some p) = Some (value.Number (kind p.0 p.1))

abbrev pub equality_type : Declared → Option ValueType → Option ValueType → Option ValueType
equality_type d (Some a) (Some b) = if compares d a b then Some truth else None
equality_type d _ _ = None

abbrev pub logic_type : Option ValueType → Option ValueType → Option ValueType
logic_type (Some a) (Some b) = Some truth
logic_type _ _ = None

abbrev pub binary_by : Declared → Operands → Option ValueType → Option ValueType → Option ValueType
binary_by d operands.Arithmetic a b = number_by common_kind (number_kinds a b)
binary_by d operands.Shift a b = number_by (λ left right. promoted left) (number_kinds a b)
binary_by d operands.Order a b = number_by (λ left right. num.Bool) (number_kinds a b)
binary_by d operands.Equality a b = equality_type d a b
binary_by d operands.Logic a b = logic_type a b

-- the type of what an operator gives for operands of these types
abbrev pub binary_type : Declared → BinOp → Option ValueType → Option ValueType → Option ValueType
binary_type d o a b = binary_by d (operands_of o) a b

-- whether an operator of one operand, other than `&`, takes one of this type
abbrev pub takes_one : UnOp → Option ValueType → Bool
takes_one un.Not t = true
takes_one _ t = may_be_number t

abbrev pub promoted_type : Option ValueType → Option ValueType
promoted_type (Some (value.Number kind)) = Some (value.Number (promoted kind))
promoted_type _ = None

abbrev pub truth_type : Option ValueType → Option ValueType
truth_type None = None
truth_type (Some t) = Some truth

-- the type of what an operator of one operand, other than `&`, gives
abbrev pub unary_type : UnOp → Option ValueType → Option ValueType
unary_type un.Not t = truth_type t
unary_type _ t = promoted_type t

-- a number type takes numbers, and `bool` whatever is true or false
abbrev pub casts : NumKind → Option ValueType → Bool
casts num.Bool t = true
casts _ t = may_be_number t

abbrev pub number_or_none : NumKind → ValueType → Option ValueType
number_or_none kind (value.Number from) = Some (value.Number kind)
number_or_none kind _ = None

-- the type of a value that is cast
abbrev pub cast_type : NumKind → Option ValueType → Option ValueType
cast_type kind None = None
cast_type num.Bool (Some t) = Some truth
cast_type kind (Some t) = number_or_none kind t
