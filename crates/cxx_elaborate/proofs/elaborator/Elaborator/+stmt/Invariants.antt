use Rattle.std.proofs.Common.{◌≡◌, drop, map}
use Rattle.cxx_tree.specs.StmtTree.{stmts_tree}
use Rattle.cxx_core.specs.StmtView.{stmt_core}
use Rattle.cxx_core.specs.ElaboratedStmt.{core_stmts}
use Rattle.cxx_elaborate.proofs.Onto.{stmts_onto}
use Rattle.cxx_elaborate.proofs.Scopes.{Stands}
use Rattle.cxx_elaborate.proofs.elaborator.Elaborator.+stmt.Given as goal

abbrev pub invariant-stmts-loop-stmt : goal.invariant-stmts-loop-stmt
invariant-stmts-loop-stmt l = record {
  made : stmts_onto (map stmt_core l.made) (core_stmts l.self l.scope (stmts_tree (drop l.stmt-index l.stmts))) ≡ core_stmts l.self l.fn.scope (stmts_tree l.stmts);
  stands : Stands l.fn.scope l.scope;
}
