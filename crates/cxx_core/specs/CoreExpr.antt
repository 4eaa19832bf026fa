-- Expressions as a machine runs them. Each name stands with its meaning and each operator with the types of its operands;
-- there are no parentheses and no numbers of nodes, and a place stands only where a stop tells one. Names and functions
-- stand with their numbers.
use Rattle.std.specs.Prelude.{ℕ, Bool, Option, Some, None}
use Rattle.agxx_base.specs.declared.ids.ClassId.{ClassId}
use Rattle.agxx_base.specs.declared.kind.NumKind.{NumKind}
use Rattle.agxx_base.specs.declared.kind.NumKind.TheVariants as kind
use Rattle.agxx_base.specs.declared.place.Place.{Place}
use Rattle.cxx_tree.specs.declared.operator.BinOp.{BinOp}
use Rattle.cxx_tree.specs.declared.operator.BinOp.TheVariants as op
use Rattle.cxx_tree.specs.declared.operator.UnOp.{UnOp}
use Rattle.cxx_tree.specs.declared.operator.UnOp.TheVariants as un
use Rattle.cxx_arith.specs.declared.value.Value.{Value}
use Rattle.cxx_arith.specs.Kinds.{promoted, common_kind}
use Rattle.cxx_names.specs.declared.types.ValueType.{ValueType}
use Rattle.cxx_names.specs.declared.types.ValueType.TheVariants as type

-- a variable that holds a value, by its name
pub data CoreVariable : Type 0 where
  -- a local or parameter
  local : ℕ → ValueType → CoreVariable
  -- a global, and whether `::` stands before its name
  global : Bool → ℕ → ValueType → CoreVariable

-- the object whose member or function is meant
pub data CoreObject : Type 0 where
  -- the frame's own, where the name stands alone
  own : CoreObject
  -- `this->`
  by_this : CoreObject
  -- `o.`, where o is a global object of this class
  by_object : ℕ → ClassId → CoreObject
  -- `p->`, where p is read anew
  by_pointer : CoreVariable → CoreObject

-- what may be assigned to, and read too
pub data CoreLeft : Type 0 where
  variable : CoreVariable → CoreLeft
  -- a member by the class that declares it, and by its name, with the place of its first token
  member : Place → CoreObject → ClassId → ℕ → NumKind → CoreLeft

-- the function of a call
pub record CoreCallee : Type 0 where
  -- the call's first token
  pub at : Place
  -- where the function's name stands, which is where advice finds the call
  pub named : Place
  pub function : ℕ
  pub name : ℕ
  -- the class that declares it, if it is no free function
  pub class : Option ClassId
  pub object : Option CoreObject
  -- whether `::` stands before its name
  pub is_global : Bool
  pub result : Option ValueType

mutual
  pub data CoreExpr : Type 0 where
    number : Value → CoreExpr
    null : CoreExpr
    this : ClassId → CoreExpr
    read : CoreLeft → CoreExpr
    -- the address of a global object
    address : ℕ → ClassId → CoreExpr
    unary : Place → UnOp → ValueType → CoreExpr → CoreExpr
    -- neither `&&` nor `||`; the place is the operator's
    binary : Place → BinOp → ValueType → ValueType → CoreExpr → CoreExpr → CoreExpr
    and : ValueType → ValueType → CoreExpr → CoreExpr → CoreExpr
    or : ValueType → ValueType → CoreExpr → CoreExpr → CoreExpr
    cast : NumKind → ValueType → CoreExpr → CoreExpr
    call : CoreCallee → CoreExprs → CoreExpr
    new : Place → ClassId → CoreExprs → CoreExpr
    -- what no accepted program has
    wrong : Place → CoreExpr

  pub data CoreExprs : Type 0 where
    no_exprs : CoreExprs
    more_exprs : CoreExpr → CoreExprs → CoreExprs

-- ---- types

abbrev pub variable_type : CoreVariable → ValueType
variable_type (local name t) = t
variable_type (global is_global name t) = t

abbrev pub left_type : CoreLeft → ValueType
left_type (variable v) = variable_type v
left_type (member at o class name k) = type.Number k

abbrev pub truth : ValueType
truth = type.Number kind.Bool

abbrev pub unary_type : UnOp → ValueType → Option ValueType
unary_type un.Not t = Some truth
unary_type un.Negate (type.Number k) = Some (type.Number (promoted k))
unary_type un.Complement (type.Number k) = Some (type.Number (promoted k))
unary_type _ _ = None

abbrev pub number_type : BinOp → NumKind → NumKind → ValueType
number_type op.Or a b = truth
number_type op.And a b = truth
number_type op.Equal a b = truth
number_type op.NotEqual a b = truth
number_type op.Less a b = truth
number_type op.LessEqual a b = truth
number_type op.Greater a b = truth
number_type op.GreaterEqual a b = truth
number_type op.ShiftLeft a b = type.Number (promoted a)
number_type op.ShiftRight a b = type.Number (promoted a)
number_type _ a b = type.Number (common_kind a b)

-- of pointers
abbrev pub pointer_type : BinOp → Option ValueType
pointer_type op.Equal = Some truth
pointer_type op.NotEqual = Some truth
pointer_type _ = None

-- what an operator gives that is neither `&&` nor `||`, if it takes such operands
abbrev pub binary_type : BinOp → ValueType → ValueType → Option ValueType
binary_type o (type.Number a) (type.Number b) = Some (number_type o a b)
binary_type o (type.Number a) b = None
binary_type o a (type.Number b) = None
binary_type o a b = pointer_type o

-- the type of an expression's value, if it has a value and nothing is wrong
abbrev pub type_of : CoreExpr → Option ValueType
type_of (number v) = Some (type.Number v.kind)
type_of null = Some type.Null
type_of (this class) = Some (type.Pointer class)
type_of (read l) = Some (left_type l)
type_of (address name class) = Some (type.Pointer class)
type_of (unary at o t a) = unary_type o t
type_of (binary at o s t a b) = binary_type o s t
type_of (and s t a b) = Some truth
type_of (or s t a b) = Some truth
type_of (cast k t a) = Some (type.Number k)
type_of (call callee arguments) = callee.result
type_of (new at class arguments) = Some (type.Pointer class)
type_of (wrong at) = None
