-- The core form of statements. A local is in scope from the statement after its declaration to the end of its block.
use Rattle.std.specs.Prelude.{ℕ, Bool, true, false, map, Option, Some, None, is_some, if◌then◌else◌}
use Rattle.agxx_base.specs.declared.place.Place.{Place}
use Rattle.agxx_base.specs.declared.kind.NumKind.TheVariants as kind
use Rattle.cxx_tree.specs.declared.expr.Left.{Left}
use Rattle.cxx_tree.specs.declared.expr.Left.TheVariants as left_of
use Rattle.cxx_tree.specs.declared.operator.BinOp.{BinOp}
use Rattle.cxx_tree.specs.declared.operator.BinOp.TheVariants as op
use Rattle.cxx_tree.specs.declared.stmt.Bump.{Bump}
use Rattle.cxx_tree.specs.Places.{left_node, expr_node}
use Rattle.cxx_tree.specs.ExprTree as e
use Rattle.cxx_tree.specs.StmtTree as s
use Rattle.cxx_arith.specs.Numbers.{flag}
use Rattle.cxx_names.specs.declared.declarations.Signature.{Signature}
use Rattle.cxx_names.specs.declared.types.ValueType.{ValueType}
use Rattle.cxx_names.specs.declared.types.ValueType.TheVariants as type
use Rattle.cxx_names.specs.declared.types.Thing.{Thing}
use Rattle.cxx_names.specs.declared.types.Thing.TheVariants as thing
use Rattle.cxx_names.specs.Tables.{with_name}
use Rattle.cxx_names.specs.LookUp.{free_signature, thing_of}
use Rattle.cxx_core.specs.CoreExpr as c
use Rattle.cxx_core.specs.CoreExpr.{CoreLeft, CoreExpr, CoreExprs, left_type, binary_type, type_of}
use Rattle.cxx_core.specs.CoreStmt as cs
use Rattle.cxx_core.specs.CoreStmt.{CoreSource, CorePrinted, CoreStmt, CoreStmts}
use Rattle.cxx_core.specs.Meanings.{Scope, Within, left_at, on_callee}
use Rattle.cxx_core.specs.ElaboratedExpr.{core_expr, core_exprs, core_call}

-- whether an expression is a name with nothing round it
abbrev pub is_name : e.ExprTree → Bool
is_name (e.left (left_of.Name r)) = true
is_name _ = false

abbrev pub source_as : Bool → CoreExpr → CoreSource
source_as true (c.read (c.variable (c.local name t))) = cs.copy name t
source_as _ a = cs.value a

abbrev pub one_stmt : CoreStmt → CoreStmts
one_stmt only = cs.more_stmts only cs.no_stmts

-- a condition that is missing
abbrev pub always : CoreExpr
always = c.number (flag true)

abbrev pub bump_operator : Bool → BinOp
bump_operator true = op.Add
bump_operator false = op.Subtract

abbrev pub one : CoreExpr
one = c.number (record { kind = kind.I32; bits = 1 })

abbrev pub declare_as : Place → ℕ → Thing → Option CoreSource → CoreStmt
declare_as at name (thing.Value t) source = cs.declare name t source
declare_as at name _ source = cs.wrong at

abbrev pub assign_as : Place → Option CoreLeft → CoreExpr → CoreStmt
assign_as at None a = cs.wrong at
assign_as at (Some l) a = cs.assign l a

abbrev pub update_by : Place → BinOp → ValueType → Option ValueType → CoreLeft → CoreExpr → CoreStmt
update_by at o s None l a = cs.wrong at
update_by at o s (Some t) l a = if is_some (binary_type o s t) then cs.update at o s t l a else cs.wrong at

abbrev pub update_as : Place → BinOp → Option CoreLeft → CoreExpr → CoreStmt
update_as at o None a = cs.wrong at
update_as at o (Some l) a = update_by at o (left_type l) (type_of a) l a

abbrev pub delete_by : Place → Option ValueType → CoreExpr → CoreStmt
delete_by at (Some (type.Pointer class)) a = cs.delete at class a
delete_by at _ a = cs.wrong at

abbrev pub delete_as : Place → CoreExpr → CoreStmt
delete_as at a = delete_by at (type_of a) a

abbrev pub printed_by : Place → Option ValueType → CoreExpr → CorePrinted
printed_by at (Some (type.Number k)) a = cs.operand at k a
printed_by at _ a = cs.unprintable at

abbrev pub printed_as : Place → CoreExpr → CorePrinted
printed_as at a = printed_by at (type_of a) a

abbrev pub return_as : Place → Option ValueType → CoreSource → CoreStmt
return_as at None source = cs.wrong at
return_as at (Some t) source = cs.return_value at t source

abbrev pub thread_as : Place → ℕ → ℕ → Option Signature → CoreExprs → CoreStmt
thread_as at name function None arguments = cs.wrong at
thread_as at name function (Some f) arguments = cs.thread at name f.id.0 function arguments

module _ (w : Within) where
  -- ---- what is in scope after a statement

  abbrev pub with_local : Scope → s.LocalTree → Scope
  with_local scope l = with_name scope l.name.item.0 (thing_of w.declared l.type_name.item)

  abbrev pub scope_after : Scope → s.StmtTree → Scope
  scope_after scope (s.local l) = with_local scope l
  scope_after scope (s.thread x) = with_name scope x.name.item.0 thing.Thread
  scope_after scope _ = scope

  abbrev pub scope_in_for : Scope → Option s.StartTree → Scope
  scope_in_for scope (Some (s.start_local l)) = with_local scope l
  scope_in_for scope _ = scope

  -- ---- statements without statements in them

  abbrev pub core_source : Scope → e.ExprTree → CoreSource
  core_source scope value = source_as (is_name value) (core_expr w scope value)

  abbrev pub core_initial : Scope → Option s.InitialTree → Option CoreSource
  core_initial scope None = None
  core_initial scope (Some i) = Some (core_source scope i.value)

  abbrev pub core_local : Scope → s.LocalTree → CoreStmt
  core_local scope l =
      declare_as l.type_name.at l.name.item.0 (thing_of w.declared l.type_name.item) (core_initial scope l.initial)

  abbrev pub assigned : Scope → Left → Place → Option BinOp → CoreExpr → CoreStmt
  assigned scope l at None a = assign_as (left_node l).at (left_at w scope l) a
  assigned scope l at (Some o) a = update_as at o (left_at w scope l) a

  abbrev pub core_bump : Scope → Bump → CoreStmt
  core_bump scope b = update_as b.sign (bump_operator b.adds) (left_at w scope b.left) one

  abbrev pub core_call_stmt : Scope → e.CallTree → CoreStmt
  core_call_stmt scope (e.calls n callee arguments) =
      on_callee w scope n.at callee (cs.run (core_call w scope (e.calls n callee arguments)))

  abbrev pub core_simple : Scope → s.SimpleTree → CoreStmt
  core_simple scope (s.assign a) = assigned scope a.left a.sign.at a.sign.item (core_expr w scope a.value)
  core_simple scope (s.bump b) = core_bump scope b
  core_simple scope (s.call_stmt call) = core_call_stmt scope call
  core_simple scope (s.proceed at) = cs.wrong at

  abbrev pub core_start : Scope → Option s.StartTree → CoreStmts
  core_start scope None = cs.no_stmts
  core_start scope (Some (s.start_local l)) = one_stmt (core_local scope l)
  core_start scope (Some (s.start_simple i)) = one_stmt (core_simple scope i)

  abbrev pub core_condition : Scope → Option e.ExprTree → CoreExpr
  core_condition scope None = always
  core_condition scope (Some condition) = core_expr w scope condition

  abbrev pub core_step : Scope → Option s.SimpleTree → CoreStmts
  core_step scope None = cs.no_stmts
  core_step scope (Some i) = one_stmt (core_simple scope i)

  abbrev pub core_printed : Scope → s.PrintedTree → CorePrinted
  core_printed scope (s.text q) = cs.text q.at q.bytes
  core_printed scope (s.endl at) = cs.endl at
  core_printed scope (s.value v) = printed_as (expr_node v).at (core_expr w scope v)

  abbrev pub core_return : Scope → Place → Option e.ExprTree → CoreStmt
  core_return scope at None = cs.return at
  core_return scope at (Some value) = return_as at w.result (core_source scope value)

  abbrev pub core_thread : Scope → s.ThreadTree → CoreStmt
  core_thread scope x =
      thread_as x.at x.name.item.0 x.function.name.item.0 (free_signature w.declared x.function.name.item.0) (core_exprs w scope x.arguments)

  -- ---- statements

  abbrev mutual
    pub core_stmt : Scope → s.StmtTree → CoreStmt
    core_stmt scope (s.block b) = cs.block (core_block scope b)
    core_stmt scope (s.local l) = core_local scope l
    core_stmt scope (s.simple i) = core_simple scope i
    core_stmt scope (s.branch i) = core_if scope i
    core_stmt scope (s.while at condition body) = cs.while (core_expr w scope condition) (core_block scope body)
    core_stmt scope (s.for at start condition step body) =
        cs.for (core_start scope start) (core_condition (scope_in_for scope start) condition)
        (core_step (scope_in_for scope start) step) (core_block (scope_in_for scope start) body)
    core_stmt scope (s.return at value) = core_return scope at value
    core_stmt scope (s.delete at pointer) = delete_as at (core_expr w scope pointer)
    core_stmt scope (s.print q) = cs.print (map (core_printed scope) q.operands)
    core_stmt scope (s.thread x) = core_thread scope x
    core_stmt scope (s.abort at) = cs.abort

    pub core_stmts : Scope → s.StmtTrees → CoreStmts
    core_stmts scope s.no_stmts = cs.no_stmts
    core_stmts scope (s.more_stmts first rest) = cs.more_stmts (core_stmt scope first) (core_stmts (scope_after scope first) rest)

    pub core_block : Scope → s.BlockTree → CoreStmts
    core_block scope (s.braces at stmts) = core_stmts scope stmts

    pub core_if : Scope → s.IfTree → CoreStmt
    core_if scope (s.chooses at condition body otherwise) =
        cs.branch (core_expr w scope condition) (core_block scope body) (core_else scope otherwise)

    pub core_else : Scope → s.ElseTree → CoreStmts
    core_else scope s.no_else = cs.no_stmts
    core_else scope (s.else_if i) = one_stmt (core_if scope i)
    core_else scope (s.else_block b) = core_block scope b
