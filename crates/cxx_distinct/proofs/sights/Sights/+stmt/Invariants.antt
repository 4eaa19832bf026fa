use Rattle.std.proofs.Common.{◌≡◌, drop}
use Rattle.cxx_tree.specs.StmtTree.{stmts_tree}
use Rattle.cxx_distinct.specs.NamesIn.{names_in_stmts}
use Rattle.cxx_distinct.specs.Sights.{seen}
use Rattle.cxx_distinct.proofs.sights.Sights.+stmt.Given as goal

-- the names that were gone through, and then those of what is left, are all
abbrev pub invariant-stmts-loop-stmt : goal.invariant-stmts-loop-stmt
invariant-stmts-loop-stmt l = seen l.self (names_in_stmts (stmts_tree (drop l.stmt-index l.stmts))) ≡ seen l.fn.self (names_in_stmts (stmts_tree l.stmts))
