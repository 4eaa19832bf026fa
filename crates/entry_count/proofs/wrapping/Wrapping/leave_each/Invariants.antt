use Rattle.std.proofs.Common.{◌≡◌, ◌++◌, ◌≤◌, length, map}
use Rattle.cxx_tree.specs.StmtTree.{stmt_tree}
use Rattle.entry_count.specs.Wrapping.{leaving}
use Rattle.entry_count.proofs.wrapping.Wrapping.leave_each.Given as goal

-- what was put, and then what is left, is the whole
abbrev pub invariant-loop-entered : goal.invariant-loop-entered
invariant-loop-entered l =
    (length l.entered ≤ length l.parts) ×
    (map stmt_tree l.stmts ++ leaving l.self.names.now l.entered l.at ≡ map stmt_tree l.fn.stmts ++ leaving l.self.names.now l.parts l.at)

abbrev pub decreases-loop-entered : goal.decreases-loop-entered
decreases-loop-entered l = length l.entered
