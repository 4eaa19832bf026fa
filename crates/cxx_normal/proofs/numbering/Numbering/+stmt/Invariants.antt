use Rattle.std.proofs.Common.{drop}
use Rattle.cxx_tree.specs.StmtTree.{stmt_tree}
use Rattle.cxx_normal.specs.Numbers.{number_stmt}
use Rattle.cxx_normal.proofs.Loops.{IsNumbered, parts}
use Rattle.cxx_normal.proofs.numbering.Numbering.+stmt.Given as goal

abbrev pub invariant-stmts-loop-stmt : goal.invariant-stmts-loop-stmt
invariant-stmts-loop-stmt l =
    IsNumbered stmt_tree number_stmt (parts stmt_tree number_stmt l.stmts l.fn.self.next) l.copies (drop l.stmt-index l.stmts) l.self.next
