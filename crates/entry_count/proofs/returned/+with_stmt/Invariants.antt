use Rattle.std.proofs.Common.{◌≡◌, ◌+◌, drop}
use Rattle.cxx_tree.specs.StmtTree.{stmts_tree}
use Rattle.entry_count.specs.Wrapping.{returns_in_stmts}
use Rattle.entry_count.proofs.returned.+with_stmt.Given as goal

-- what was counted, and then what is left, is the whole
abbrev pub invariant-with_stmts-loop-stmt : goal.invariant-with_stmts-loop-stmt
invariant-with_stmts-loop-stmt l =
    l.total + returns_in_stmts (stmts_tree (drop l.stmt-index l.stmts)) ≡ l.fn.count + returns_in_stmts (stmts_tree l.stmts)
