use Rattle.std.proofs.Common.{◌≡◌, drop}
use Rattle.cxx_tree.specs.ExprTree.{exprs_tree}
use Rattle.guard_rules.specs.ThroughMembers.{through_exprs}
use Rattle.guard_rules.proofs.known.Known.+reached.Given as goal

abbrev pub invariant-reached_in_exprs-loop-expr : goal.invariant-reached_in_exprs-loop-expr
invariant-reached_in_exprs-loop-expr l =
    through_exprs l.self (exprs_tree (drop l.expr-index l.exprs)) l.first ≡ through_exprs l.self (exprs_tree l.exprs) l.fn.found
