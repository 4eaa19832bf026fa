use Rattle.std.proofs.Common.{◌≡◌, ◌++◌, ◌+◌, drop, map}
use Rattle.cxx_tree.specs.StmtTree.{stmt_tree, stmts_tree}
use Rattle.entry_count.specs.Wrapping.{wrapped_stmts, returns_in_stmts}
use Rattle.entry_count.proofs.wrapping.Wrapping.+stmt.Given as goal

-- what was put, and then what is left, is the whole
abbrev pub invariant-stmts-loop-stmt : goal.invariant-stmts-loop-stmt
invariant-stmts-loop-stmt l =
    (map stmt_tree l.stmts ++ wrapped_stmts l.self.names.now l.self.result l.self.parts.now l.before (stmts_tree (drop l.stmt-index l.wrapped)) ≡ map stmt_tree l.fn.stmts ++ wrapped_stmts l.self.names.now l.self.result l.self.parts.now l.fn.before (stmts_tree l.wrapped)) ×
    (l.before + returns_in_stmts (stmts_tree (drop l.stmt-index l.wrapped)) ≡ l.fn.before + returns_in_stmts (stmts_tree l.wrapped))
