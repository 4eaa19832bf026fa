use Rattle.std.proofs.Common.{◌≡◌, drop}
use Rattle.cxx_tree.specs.StmtTree.{stmts_tree}
use Rattle.cxx_types.specs.Statements.{stmts}
use Rattle.cxx_types.proofs.checker.Checker.+stmt.Given as goal

abbrev pub invariant-stmts-loop-stmt : goal.invariant-stmts-loop-stmt
invariant-stmts-loop-stmt l =
    stmts l.context l.outermost (stmts_tree (drop l.stmt-index l.stmts)) l.self ≡ stmts l.context l.outermost (stmts_tree l.stmts) l.fn.self
