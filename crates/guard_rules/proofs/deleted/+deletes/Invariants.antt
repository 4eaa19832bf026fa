use Rattle.std.proofs.Common.{◌≡◌, drop}
use Rattle.cxx_tree.specs.StmtTree.{stmts_tree}
use Rattle.guard_rules.specs.ThroughDeletes.{through_stmts}
use Rattle.guard_rules.proofs.deleted.+deletes.Given as goal

abbrev pub invariant-in_stmts-loop-stmt : goal.invariant-in_stmts-loop-stmt
invariant-in_stmts-loop-stmt l =
    through_stmts (stmts_tree (drop l.stmt-index l.stmts)) l.first ≡ through_stmts (stmts_tree l.stmts) l.fn.found
