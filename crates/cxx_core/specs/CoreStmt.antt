-- Statements as a machine runs them.
use Rattle.std.specs.Prelude.{ℕ, List, Option}
use Rattle.agxx_base.specs.declared.ids.ClassId.{ClassId}
use Rattle.agxx_base.specs.declared.kind.NumKind.{NumKind}
use Rattle.agxx_base.specs.declared.place.Place.{Place}
use Rattle.cxx_tree.specs.declared.operator.BinOp.{BinOp}
use Rattle.cxx_names.specs.declared.types.ValueType.{ValueType}
use Rattle.cxx_core.specs.CoreExpr.{CoreExpr, CoreExprs, CoreLeft}

-- where a declared or returned value comes from
pub data CoreSource : Type 0 where
  -- the name of a local or parameter, not in parentheses, which takes no step of its own
  copy : ℕ → ValueType → CoreSource
  value : CoreExpr → CoreSource

-- an operand of a print, with the place of its first token
pub data CorePrinted : Type 0 where
  text : Place → List ℕ → CorePrinted
  endl : Place → CorePrinted
  operand : Place → NumKind → CoreExpr → CorePrinted
  -- what no accepted program has
  unprintable : Place → CorePrinted

pub data CoreMutex : Type 0 where
  global_mutex : ℕ → CoreMutex
  -- of the frame's own object, by the class that declares it
  member_mutex : ClassId → ℕ → CoreMutex

mutual
  pub data CoreStmt : Type 0 where
    block : CoreStmts → CoreStmt
    -- with nothing to come from, it is 0
    declare : ℕ → ValueType → Option CoreSource → CoreStmt
    assign : CoreLeft → CoreExpr → CoreStmt
    -- `l op= e`, and `++` and `--` with 1 for e; the place is the sign's
    update : Place → BinOp → ValueType → ValueType → CoreLeft → CoreExpr → CoreStmt
    -- a call, whose value is dropped where it has one
    run : CoreExpr → CoreStmt
    join : Place → ℕ → CoreStmt
    lock : Place → CoreMutex → CoreStmt
    unlock : Place → CoreMutex → CoreStmt
    branch : CoreExpr → CoreStmts → CoreStmts → CoreStmt
    while : CoreExpr → CoreStmts → CoreStmt
    -- what is done first, the condition, what is done after each round, and the body
    for : CoreStmts → CoreExpr → CoreStmts → CoreStmts → CoreStmt
    return : Place → CoreStmt
    -- with the type of the function's result
    return_value : Place → ValueType → CoreSource → CoreStmt
    -- with the static class
    delete : Place → ClassId → CoreExpr → CoreStmt
    print : List CorePrinted → CoreStmt
    -- the thread's name, its function's number and name, and the arguments
    thread : Place → ℕ → ℕ → ℕ → CoreExprs → CoreStmt
    abort : CoreStmt
    -- what no accepted program has
    wrong : Place → CoreStmt

  pub data CoreStmts : Type 0 where
    no_stmts : CoreStmts
    more_stmts : CoreStmt → CoreStmts → CoreStmts
