-- Code without `std::abort();`: statements, functions, and what is left to do in a frame.
use Rattle.std.specs.Prelude.{◌≡◌, ℕ, Some, slice_get}
use Rattle.cxx_core.specs.CoreStmt as cs
use Rattle.cxx_core.specs.CoreStmt.{CoreStmt, CoreStmts}
use Rattle.cxx_core.specs.CoreProgram.{CoreFunction, CoreProgram}

abbrev pub Nothing : Type 0
Nothing = Unit {0}

abbrev mutual
  pub IsHaltFree : CoreStmt → Type 0
  IsHaltFree (cs.block body) = AreHaltFree body
  IsHaltFree (cs.branch e a b) = AreHaltFree a × AreHaltFree b
  IsHaltFree (cs.while e body) = AreHaltFree body
  IsHaltFree (cs.for start e step body) = AreHaltFree start × AreHaltFree step × AreHaltFree body
  IsHaltFree cs.abort = ⊥
  IsHaltFree _ = Nothing

  pub AreHaltFree : CoreStmts → Type 0
  AreHaltFree cs.no_stmts = Nothing
  AreHaltFree (cs.more_stmts first rest) = IsHaltFree first × AreHaltFree rest

-- a program's functions
abbrev pub HasNoAbort : CoreProgram → Type 0
HasNoAbort program = (i : ℕ) (f : CoreFunction) → slice_get program.functions i ≡ Some f → AreHaltFree f.body
