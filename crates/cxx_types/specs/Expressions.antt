-- Expressions: the rules that they violate, the type and meaning of each of their nodes, and the type of the whole. An
-- expression has a type only where nothing in it violates a rule.
use Rattle.std.specs.Prelude.{ℕ, suc, Bool, true, false, List, [], ◌∷◌, length, Option, Some, None, is_some, if◌then◌else◌}
use Rattle.agxx_base.specs.declared.ids.ClassId.{ClassId}
use Rattle.agxx_base.specs.declared.kind.NumKind.{NumKind}
use Rattle.agxx_base.specs.declared.kind.NumKind.TheVariants as num
use Rattle.agxx_base.specs.declared.place.Place.{Place}
use Rattle.agxx_base.specs.declared.rule.Rule.TheVariants as rule
use Rattle.cxx_tree.specs.declared.node.Node.{Node}
use Rattle.cxx_tree.specs.declared.node.Placed.{Placed}
use Rattle.cxx_tree.specs.declared.operator.BinOp.{BinOp}
use Rattle.cxx_tree.specs.declared.operator.UnOp.{UnOp}
use Rattle.cxx_tree.specs.declared.operator.UnOp.TheVariants as un
use Rattle.cxx_tree.specs.declared.expr.Left.{Left}
use Rattle.cxx_tree.specs.declared.expr.Left.TheVariants as left_of
use Rattle.cxx_tree.specs.declared.expr.Ref.{Ref}
use Rattle.cxx_tree.specs.declared.program.Param.{Param}
use Rattle.cxx_tree.specs.declared.program.TypeName.{TypeName}
use Rattle.cxx_tree.specs.declared.program.TypeName.TheVariants as type_name
use Rattle.cxx_tree.specs.ExprTree as e
use Rattle.cxx_tree.specs.ExprTree.{ExprTree, ExprTrees, CallTree}
use Rattle.cxx_tree.specs.Places.{expr_node}
use Rattle.cxx_names.specs.declared.types.ValueType.{ValueType}
use Rattle.cxx_names.specs.declared.types.ValueType.TheVariants as value
use Rattle.cxx_names.specs.declared.types.Thing.TheVariants as thing
use Rattle.cxx_names.specs.declared.types.Variable.{Variable}
use Rattle.cxx_names.specs.declared.types.Variable.TheVariants as variable
use Rattle.cxx_names.specs.LookUp.{thing_of}
use Rattle.cxx_types.specs.declared.context.Context.{Context}
use Rattle.cxx_types.specs.declared.entry.Meaning.TheVariants as meaning
use Rattle.cxx_types.specs.State.{State}
use Rattle.cxx_types.specs.Callable.{Callable}
use Rattle.cxx_types.specs.Checking.{required, noted, opened, closed}
use Rattle.cxx_types.specs.Conversion.{may_convert, may_be_number, takes, takes_one, binary_type, unary_type, casts, cast_type, truth}
use Rattle.cxx_types.specs.Selections.{meant, variable_node, read, selected, value_of}
use Rattle.cxx_types.specs.Calls.{called, created}

abbrev pub Typed : Type 0
Typed = State × Option ValueType

-- ---- expressions without parts

abbrev pub simple : Option ValueType → State → Typed
simple t s = (noted t meaning.Other s, t)

abbrev pub own_type : Option ClassId → Option ValueType
own_type None = None
own_type (Some class) = Some (value.Pointer class)

-- `this` stands in functions of classes alone
abbrev pub own : Context → Node → State → Typed
own c n s = (noted (own_type c.class) meaning.Other (required rule.N8 n.at (is_some c.class) s), own_type c.class)

-- what may stand on the left of an assignment, as a value; a result of a join point counts as an int64_t
unfoldable pub left : Context → Left → State → Typed
left c (left_of.Name r) s = read c r s
left c (left_of.Member n q) s = selected c n q s
left c (left_of.Result n) s = simple (Some (value.Number num.I64)) s

-- ---- operators, casts and arguments, for the types of their parts

abbrev pub operated : ℕ → Node → UnOp → Typed → Typed
operated index n o x = (closed index (unary_type o x.1) (required rule.N3 n.at (takes_one o x.1) x.0), unary_type o x.1)

abbrev pub joined : ℕ → Placed BinOp → Option ValueType → Typed → Typed
joined index o a y = (
  closed index (binary_type y.0.declared o.item a y.1) (required rule.N3 o.at (takes y.0.declared o.item a y.1) y.0),
  binary_type y.0.declared o.item a y.1,
)

abbrev pub grouped : ℕ → Typed → Typed
grouped index x = (closed index x.1 x.0, x.1)

-- the kind of a number type
abbrev pub kind_of : TypeName → NumKind
kind_of (type_name.Num kind) = kind
kind_of type_name.Int = num.I32
kind_of type_name.Unsigned = num.U32
kind_of _ = num.I32

abbrev pub cast : ℕ → NumKind → Place → Typed → Typed
cast index kind at x = (closed index (cast_type kind x.1) (required rule.N3 at (casts kind x.1) x.0), cast_type kind x.1)

-- the class of the object whose address is taken, if it is of one: a global object, by its name
abbrev pub object_in : Option Variable → Option (Option ClassId)
object_in (Some (variable.Global (thing.Object class))) = Some class
object_in _ = None

abbrev pub with_name : Ref → Option (Option ClassId) → Option (Ref × Option ClassId)
with_name r None = None
with_name r (Some class) = Some (r, class)

abbrev pub addressed_left : Context → Left → State → Option (Ref × Option ClassId)
addressed_left c (left_of.Name r) s = with_name r (object_in (meant c r s))
addressed_left c _ s = None

abbrev pub addressed : Context → ExprTree → State → Option (Ref × Option ClassId)
addressed c (e.left l) s = addressed_left c l s
addressed c _ s = None

abbrev pub address : Context → Ref × Option ClassId → State → Typed
address c p s = (variable_node c p.0 (meant c p.0 s) (noted (own_type p.1) meaning.Other s), own_type p.1)

-- anything else has no address
abbrev pub no_address : Node → (State → Typed) → State → Typed
no_address n operand s = ((operand (noted None meaning.Other (required rule.N7 n.at false s))).0, None)

abbrev pub address_by : Context → Node → Option (Ref × Option ClassId) → (State → Typed) → State → Typed
address_by c n None operand s = no_address n operand s
address_by c n (Some p) operand s = address c p s

abbrev pub param_type : State → Param → Option ValueType
param_type s p = value_of (thing_of s.declared p.type_name.item)

-- whether an argument has a type that converts to a parameter's
abbrev pub passes : State → Option ValueType → Option ValueType → Bool
passes s None to = false
passes s (Some from) None = false
passes s (Some from) (Some to) = may_convert s.declared (Some from) (Some to)

abbrev pub both : Bool → Bool → Bool
both true other = other
both false other = false

abbrev pub passed : Place → Param → Typed → State × Bool
passed at p x =
    (required rule.N3 at (may_convert x.0.declared x.1 (param_type x.0 p)) x.0, passes x.0 x.1 (param_type x.0 p))

-- the type of a call, for whether its arguments fit
abbrev pub called_type : Callable → Bool → Option ValueType
called_type f fit = if both f.is_right fit then f.result else None

abbrev pub count : ExprTrees → ℕ
count e.no_exprs = 0
count (e.more_exprs first rest) = suc (count rest)

-- ---- all expressions

abbrev mutual
  -- an expression as a value
  pub expr : Context → ExprTree → State → Typed
  expr c (e.lit n number) s = simple (Some (value.Number number.kind)) s
  expr c (e.flag n is_set) s = simple (Some truth) s
  expr c (e.null n) s = simple (Some value.Null) s
  expr c (e.this n) s = own c n s
  expr c (e.left l) s = left c l s
  expr c (e.unary n un.AddressOf operand) s = address_by c n (addressed c operand s) (λ s. expr c operand s) s
  expr c (e.unary n o operand) s = operated (length s.entries) n o (expr c operand (opened s))
  expr c (e.binary n o a b) s = let x = expr c a (opened s) in joined (length s.entries) o x.1 (expr c b x.0)
  expr c (e.paren n inner) s = grouped (length s.entries) (expr c inner (opened s))
  expr c (e.cast n t operand) s = cast (length s.entries) (kind_of t) (expr_node operand).at (expr c operand (opened s))
  expr c (e.call k) s = call c true k s
  expr c (e.new n class) s = let f = created c class 0 s in (f.0, called_type f.1 true)
  expr c (e.new_with n class arguments) s =
      let f = created c class (count arguments) s in
      let x = exprs c f.1.params true arguments f.0 in (x.0, called_type f.1 x.1)

  -- arguments for parameters, and whether those before fit and all of these have a type that converts to that of their
  -- parameter
  pub exprs : Context → List Param → Bool → ExprTrees → State → State × Bool
  exprs c params fit e.no_exprs s = (s, fit)
  exprs c [] fit (e.more_exprs first rest) s = exprs c [] false rest (expr c first s).0
  exprs c (p ∷ ps) fit (e.more_exprs first rest) s =
      let x = passed (expr_node first).at p (expr c first s) in exprs c ps (both fit x.1) rest x.0

  -- a call, as a value or as a statement
  pub call : Context → Bool → CallTree → State → Typed
  call c as_value (e.calls n callee arguments) s =
      let f = called c n callee (count arguments) as_value s in
      let x = exprs c f.1.params true arguments f.0 in (x.0, called_type f.1 x.1)

-- `&` with its operand
abbrev pub address_of : Context → Node → ExprTree → State → Typed
address_of c n operand s = address_by c n (addressed c operand s) (λ s. expr c operand s) s
