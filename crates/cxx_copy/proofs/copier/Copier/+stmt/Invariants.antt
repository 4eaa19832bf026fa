use Rattle.std.proofs.Common.{◌≡◌, ◌++◌, drop, map}
use Rattle.cxx_tree.specs.StmtTree.{stmt_tree}
use Rattle.cxx_copy.proofs.copier.Copier.+stmt.Given as goal

-- what was copied, and then what is left, is the whole
abbrev pub invariant-stmts-loop-stmt : goal.invariant-stmts-loop-stmt
invariant-stmts-loop-stmt l = map stmt_tree l.copies ++ map stmt_tree (drop l.stmt-index l.stmts) ≡ map stmt_tree l.stmts
