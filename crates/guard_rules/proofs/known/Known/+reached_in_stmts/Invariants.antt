use Rattle.std.proofs.Common.{◌≡◌, drop}
use Rattle.cxx_tree.specs.StmtTree.{stmts_tree}
use Rattle.guard_rules.specs.ThroughMembers.{through_stmts}
use Rattle.guard_rules.proofs.known.Known.+reached_in_stmts.Given as goal

abbrev pub invariant-reached_in_stmts-loop-stmt : goal.invariant-reached_in_stmts-loop-stmt
invariant-reached_in_stmts-loop-stmt l =
    through_stmts l.self (stmts_tree (drop l.stmt-index l.stmts)) l.first ≡ through_stmts l.self (stmts_tree l.stmts) l.fn.found
