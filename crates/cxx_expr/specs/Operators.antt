-- Which signs are operators of expressions.
use Rattle.std.specs.Prelude.{Option, Some, None}
use Rattle.agxx_base.specs.declared.vocabulary.Sign.{Sign}
use Rattle.agxx_base.specs.declared.vocabulary.Sign.TheVariants as sg
use Rattle.cxx_tree.specs.declared.operator.BinOp.{BinOp}
use Rattle.cxx_tree.specs.declared.operator.BinOp.TheVariants as op
use Rattle.cxx_tree.specs.declared.operator.UnOp.{UnOp}
use Rattle.cxx_tree.specs.declared.operator.UnOp.TheVariants as un

-- the operator between two operands that a sign is
abbrev pub binary_of : Sign → Option BinOp
binary_of sg.OrOr = Some op.Or
binary_of sg.AndAnd = Some op.And
binary_of sg.Or = Some op.BitOr
binary_of sg.Caret = Some op.BitXor
binary_of sg.And = Some op.BitAnd
binary_of sg.EqualEqual = Some op.Equal
binary_of sg.NotEqual = Some op.NotEqual
binary_of sg.Less = Some op.Less
binary_of sg.LessEqual = Some op.LessEqual
binary_of sg.Greater = Some op.Greater
binary_of sg.GreaterEqual = Some op.GreaterEqual
binary_of sg.ShiftLeft = Some op.ShiftLeft
binary_of sg.ShiftRight = Some op.ShiftRight
binary_of sg.Plus = Some op.Add
binary_of sg.Minus = Some op.Subtract
binary_of sg.Star = Some op.Multiply
binary_of sg.Slash = Some op.Divide
binary_of sg.Percent = Some op.Remainder
binary_of _ = None

-- the operator before an operand that a sign is
abbrev pub unary_of : Sign → Option UnOp
unary_of sg.Minus = Some un.Negate
unary_of sg.Not = Some un.Not
unary_of sg.Tilde = Some un.Complement
unary_of sg.And = Some un.AddressOf
unary_of _ = None
