-- What enters and leaves a part, in core form. Behind a lock a counter is read and changed by 1, and a function of the
-- part is called where the counter is 0.
use Rattle.std.specs.Prelude.{ℕ}
use Rattle.agxx_base.specs.declared.ids.ClassId.{ClassId}
use Rattle.agxx_base.specs.declared.kind.NumKind.TheVariants as kind
use Rattle.agxx_base.specs.declared.place.Place.{Place}
use Rattle.cxx_tree.specs.declared.operator.BinOp.{BinOp}
use Rattle.cxx_tree.specs.declared.operator.BinOp.TheVariants as op
use Rattle.cxx_names.specs.declared.types.ValueType.{ValueType}
use Rattle.cxx_names.specs.declared.types.ValueType.TheVariants as type
use Rattle.cxx_core.specs.CoreExpr as c
use Rattle.cxx_core.specs.CoreExpr.{CoreCallee, CoreExpr, CoreLeft}
use Rattle.cxx_core.specs.CoreStmt as cs
use Rattle.cxx_core.specs.CoreStmt.{CoreStmt, CoreStmts}

-- of the counter
abbrev pub count_type : ValueType
count_type = type.Number kind.U32

-- the class that declares the part, the name of its counter and that of its mutex
module _ (at : Place) (class : ClassId) (counter mutex : ℕ) where
  abbrev pub count : CoreLeft
  count = c.member at c.own class counter kind.U32

  abbrev pub number : ℕ → CoreExpr
  number n = c.number (record { kind = kind.U32; bits = n })

  abbrev pub with_count : BinOp → ℕ → CoreExpr
  with_count o n = c.binary at o count_type count_type (c.read count) (number n)

  abbrev pub counts : BinOp → CoreStmt
  counts o = cs.assign count (with_count o 1)

  abbrev pub when_zero : CoreCallee → CoreStmt
  when_zero function =
      cs.branch (with_count op.Equal 0) (cs.more_stmts (cs.run (c.call function c.no_exprs)) cs.no_stmts) cs.no_stmts

  abbrev pub take_lock : CoreStmt
  take_lock = cs.lock at (cs.member_mutex class mutex)

  abbrev pub free_lock : CoreStmts
  free_lock = cs.more_stmts (cs.unlock at (cs.member_mutex class mutex)) cs.no_stmts

  -- ---- enter

  -- behind the lock
  abbrev pub enter_held : CoreCallee → CoreStmts
  enter_held repair = cs.more_stmts (when_zero repair) (cs.more_stmts (counts op.Add) free_lock)

  abbrev pub enter_block : CoreCallee → CoreStmts
  enter_block repair = cs.more_stmts take_lock (enter_held repair)

  -- ---- leave

  -- behind the store of the counter
  abbrev pub leave_counted : CoreCallee → CoreStmts
  leave_counted renew = cs.more_stmts (when_zero renew) free_lock

  -- behind the lock
  abbrev pub leave_held : CoreCallee → CoreStmts
  leave_held renew = cs.more_stmts (counts op.Subtract) (leave_counted renew)

  abbrev pub leave_block : CoreCallee → CoreStmts
  leave_block renew = cs.more_stmts take_lock (leave_held renew)
