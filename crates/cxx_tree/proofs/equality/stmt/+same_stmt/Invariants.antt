use Rattle.std.proofs.Common.{◌≡◌, ◌↔◌, drop}
use Rattle.cxx_tree.specs.Blank.{blank_stmts}
use Rattle.cxx_tree.specs.StmtTree.{stmts_tree}
use Rattle.cxx_tree.proofs.equality.stmt.+same_stmt.Given as goal

-- what is left of the lists is the same exactly where the whole lists are
abbrev pub invariant-same_stmts-loop-first : goal.invariant-same_stmts-loop-first
invariant-same_stmts-loop-first l =
    (blank_stmts (stmts_tree (drop l.first-index l.a)) ≡ blank_stmts (stmts_tree l.rest)) ↔ (blank_stmts (stmts_tree l.a) ≡ blank_stmts (stmts_tree l.fn.b))
