-- What the core form of a program is free of.
use Rattle.std.specs.Prelude.{◌≡◌, ℕ, List}
use Rattle.cxx_tree.specs.ExprTree.{ExprTree, ExprTrees}
use Rattle.cxx_tree.specs.StmtTree.{StmtTree, BlockTree}
use Rattle.cxx_tree.specs.ProgramTree.{ProgramTree}
use Rattle.cxx_normal.specs.Numbers.{number_expr, number_exprs, number_stmt, number_block, numbered_program}
use Rattle.cxx_names.specs.Declarations.{declared}
use Rattle.cxx_core.specs.Meanings.{Scope, Within}
use Rattle.cxx_core.specs.ElaboratedExpr.{core_expr, core_exprs}
use Rattle.cxx_core.specs.ElaboratedStmt.{core_stmt, core_block}
use Rattle.cxx_core.specs.ElaboratedProgram.{core_program}

-- however nodes are numbered, what a program declares and its core form stay
pub record NumberingKeepsCore : Type 0 where
  pub of_declared : (names : List (List ℕ)) (q : ProgramTree) → declared names (numbered_program q) ≡ declared names q
  pub of_program : (names : List (List ℕ)) (q : ProgramTree) → core_program names (numbered_program q) ≡ core_program names q
  pub of_expr : (w : Within) (scope : Scope) (t : ExprTree) (k : ℕ) → core_expr w scope (number_expr t k).0 ≡ core_expr w scope t
  pub of_exprs : (w : Within) (scope : Scope) (ts : ExprTrees) (k : ℕ) → core_exprs w scope (number_exprs ts k).0 ≡ core_exprs w scope ts
  pub of_stmt : (w : Within) (scope : Scope) (t : StmtTree) (k : ℕ) → core_stmt w scope (number_stmt t k).0 ≡ core_stmt w scope t
  pub of_block : (w : Within) (scope : Scope) (b : BlockTree) (k : ℕ) → core_block w scope (number_block b k).0 ≡ core_block w scope b
