-- The core statement that a statement of the code is.
use Rattle.std.specs.Prelude.{ℕ, List, [], ◌∷◌, map, Option, option_map}
use Rattle.cxx_core.specs.declared.stmt.Source.{Source}
use Rattle.cxx_core.specs.declared.stmt.Source.TheVariants as source_of
use Rattle.cxx_core.specs.declared.stmt.Printed.{Printed}
use Rattle.cxx_core.specs.declared.stmt.Printed.TheVariants as printed_of
use Rattle.cxx_core.specs.declared.stmt.Mutex.{Mutex}
use Rattle.cxx_core.specs.declared.stmt.Mutex.TheVariants as mutex_of
use Rattle.cxx_core.specs.declared.stmt.Stmt.{Stmt}
use Rattle.cxx_core.specs.declared.stmt.Stmt.TheOpen.{Stmt-F}
use Rattle.cxx_core.specs.declared.stmt.Stmt.TheFolds.{fold-Stmt}
use Rattle.cxx_core.specs.CoreStmt as cs
use Rattle.cxx_core.specs.CoreStmt.{CoreSource, CorePrinted, CoreMutex, CoreStmt, CoreStmts}
use Rattle.cxx_core.specs.ExprView.{left_core, expr_core, exprs_core}

abbrev pub source_core : Source → CoreSource
source_core (source_of.Copy name t) = cs.copy name.0 t
source_core (source_of.Value e) = cs.value (expr_core e)

abbrev pub printed_core : Printed → CorePrinted
printed_core (printed_of.Text at text) = cs.text at text
printed_core (printed_of.Endl at) = cs.endl at
printed_core (printed_of.Operand at k e) = cs.operand at k (expr_core e)
printed_core (printed_of.Unprintable at) = cs.unprintable at

abbrev pub mutex_core : Mutex → CoreMutex
mutex_core (mutex_of.Global name) = cs.global_mutex name.0
mutex_core (mutex_of.Member class name) = cs.member_mutex class name.0

abbrev pub listed_stmts : List CoreStmt → CoreStmts
listed_stmts [] = cs.no_stmts
listed_stmts (first ∷ rest) = cs.more_stmts first (listed_stmts rest)

abbrev pub stmt_step : Stmt-F CoreStmt → CoreStmt
stmt_step (Stmt-F.Block body) = cs.block (listed_stmts body)
stmt_step (Stmt-F.Declare name t source) = cs.declare name.0 t (option_map source_core source)
stmt_step (Stmt-F.Assign l e) = cs.assign (left_core l) (expr_core e)
stmt_step (Stmt-F.Update at o s t l e) = cs.update at o s t (left_core l) (expr_core e)
stmt_step (Stmt-F.Run e) = cs.run (expr_core e)
stmt_step (Stmt-F.Join at name) = cs.join at name.0
stmt_step (Stmt-F.Lock at m) = cs.lock at (mutex_core m)
stmt_step (Stmt-F.Unlock at m) = cs.unlock at (mutex_core m)
stmt_step (Stmt-F.Branch e a b) = cs.branch (expr_core e) (listed_stmts a) (listed_stmts b)
stmt_step (Stmt-F.While e body) = cs.while (expr_core e) (listed_stmts body)
stmt_step (Stmt-F.For start e step body) = cs.for (listed_stmts start) (expr_core e) (listed_stmts step) (listed_stmts body)
stmt_step (Stmt-F.Return at) = cs.return at
stmt_step (Stmt-F.ReturnValue at t source) = cs.return_value at t (source_core source)
stmt_step (Stmt-F.Delete at class e) = cs.delete at class (expr_core e)
stmt_step (Stmt-F.Print qs) = cs.print (map printed_core qs)
stmt_step (Stmt-F.Thread at name f called es) = cs.thread at name.0 f.0 called.0 (exprs_core es)
stmt_step Stmt-F.Abort = cs.abort
stmt_step (Stmt-F.Wrong at) = cs.wrong at

abbrev pub stmt_core : Stmt → CoreStmt
stmt_core = fold-Stmt CoreStmt stmt_step

abbrev pub stmts_core : List Stmt → CoreStmts
stmts_core ss = listed_stmts (map stmt_core ss)
