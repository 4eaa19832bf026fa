-- The core form of expressions. `wrong` stands where a name stands for nothing that fits, and where an operand has no type
-- that its operator takes.
use Rattle.std.specs.Prelude.{Option, Some, None, is_some, if◌then◌else◌}
use Rattle.agxx_base.specs.declared.ids.ClassId.{ClassId}
use Rattle.agxx_base.specs.declared.place.Place.{Place}
use Rattle.agxx_base.specs.declared.kind.NumKind.{NumKind}
use Rattle.agxx_base.specs.declared.kind.NumKind.TheVariants as kind
use Rattle.cxx_tree.specs.declared.node.Number.{Number}
use Rattle.cxx_tree.specs.declared.operator.BinOp.{BinOp}
use Rattle.cxx_tree.specs.declared.operator.BinOp.TheVariants as op
use Rattle.cxx_tree.specs.declared.operator.UnOp.{UnOp}
use Rattle.cxx_tree.specs.declared.operator.UnOp.TheVariants as un
use Rattle.cxx_tree.specs.Places.{left_node, call_node}
use Rattle.cxx_tree.specs.ExprTree as e
use Rattle.cxx_arith.specs.declared.value.Value.{Value}
use Rattle.cxx_arith.specs.Numbers.{flag}
use Rattle.cxx_names.specs.declared.types.ValueType.{ValueType}
use Rattle.cxx_names.specs.declared.types.ValueType.TheVariants as type
use Rattle.cxx_names.specs.Declarations.{class_named}
use Rattle.cxx_core.specs.CoreExpr as c
use Rattle.cxx_core.specs.CoreExpr.{CoreObject, CoreLeft, CoreCallee, CoreExpr, CoreExprs, unary_type, binary_type, type_of}
use Rattle.cxx_core.specs.Meanings.{Scope, Within, kind_named, addressed, left_at, callee_at}

abbrev pub literal : Number → Value
literal n = record { kind = n.kind; bits = n.bits }

abbrev pub this_as : Place → Option ClassId → CoreExpr
this_as at None = c.wrong at
this_as at (Some class) = c.this class

abbrev pub read_as : Place → Option CoreLeft → CoreExpr
read_as at None = c.wrong at
read_as at (Some l) = c.read l

abbrev pub address_as : Place → Option (CoreObject × ClassId) → CoreExpr
address_as at (Some (c.by_object name class, _)) = c.address name class
address_as at _ = c.wrong at

abbrev pub unary_by : Place → UnOp → Option ValueType → CoreExpr → CoreExpr
unary_by at o None a = c.wrong at
unary_by at o (Some t) a = if is_some (unary_type o t) then c.unary at o t a else c.wrong at

-- with the object that the operand names, of which `&` takes the address
abbrev pub unary_as : Place → UnOp → Option (CoreObject × ClassId) → CoreExpr → CoreExpr
unary_as at un.AddressOf o a = address_as at o
unary_as at u o a = unary_by at u (type_of a) a

abbrev pub joined : Place → BinOp → ValueType → ValueType → CoreExpr → CoreExpr → CoreExpr
joined at op.Or s t a b = c.or s t a b
joined at op.And s t a b = c.and s t a b
joined at o s t a b = if is_some (binary_type o s t) then c.binary at o s t a b else c.wrong at

abbrev pub binary_by : Place → BinOp → Option ValueType → Option ValueType → CoreExpr → CoreExpr → CoreExpr
binary_by at o None t a b = c.wrong at
binary_by at o (Some s) None a b = c.wrong at
binary_by at o (Some s) (Some t) a b = joined at o s t a b

abbrev pub binary_as : Place → BinOp → CoreExpr → CoreExpr → CoreExpr
binary_as at o a b = binary_by at o (type_of a) (type_of b) a b

-- numbers of every kind, and pointers to `bool` alone
abbrev pub cast_by : Place → Option NumKind → Option ValueType → CoreExpr → CoreExpr
cast_by at (Some k) (Some (type.Number from)) a = c.cast k (type.Number from) a
cast_by at (Some kind.Bool) (Some t) a = c.cast kind.Bool t a
cast_by at _ _ a = c.wrong at

abbrev pub cast_as : Place → Option NumKind → CoreExpr → CoreExpr
cast_as at k a = cast_by at k (type_of a) a

abbrev pub call_as : Place → Option CoreCallee → CoreExprs → CoreExpr
call_as at None arguments = c.wrong at
call_as at (Some callee) arguments = c.call callee arguments

abbrev pub value_by : Place → Option ValueType → CoreExpr → CoreExpr
value_by at None a = c.wrong at
value_by at (Some t) a = a

-- a call that is a value has one
abbrev pub value_as : Place → CoreExpr → CoreExpr
value_as at a = value_by at (type_of a) a

abbrev pub new_as : Place → Option ClassId → CoreExprs → CoreExpr
new_as at None arguments = c.wrong at
new_as at (Some class) arguments = c.new at class arguments

module _ (w : Within) (scope : Scope) where
  abbrev mutual
    pub core_expr : e.ExprTree → CoreExpr
    core_expr (e.lit n value) = c.number (literal value)
    core_expr (e.flag n is_set) = c.number (flag is_set)
    core_expr (e.null n) = c.null
    core_expr (e.this n) = this_as n.at w.class
    core_expr (e.left l) = read_as (left_node l).at (left_at w scope l)
    core_expr (e.unary n o operand) = unary_as n.at o (addressed w scope operand) (core_expr operand)
    core_expr (e.binary n o a b) = binary_as o.at o.item (core_expr a) (core_expr b)
    core_expr (e.paren n inner) = core_expr inner
    core_expr (e.cast n type_name operand) = cast_as n.at (kind_named w.declared type_name) (core_expr operand)
    core_expr (e.call call) = value_as (call_node call).at (core_call call)
    core_expr (e.new n class) = new_as n.at (class_named w.declared class.item.0) c.no_exprs
    core_expr (e.new_with n class arguments) = new_as n.at (class_named w.declared class.item.0) (core_exprs arguments)

    pub core_exprs : e.ExprTrees → CoreExprs
    core_exprs e.no_exprs = c.no_exprs
    core_exprs (e.more_exprs first rest) = c.more_exprs (core_expr first) (core_exprs rest)

    -- with or without a value
    pub core_call : e.CallTree → CoreExpr
    core_call (e.calls n callee arguments) = call_as n.at (callee_at w scope n.at callee) (core_exprs arguments)
