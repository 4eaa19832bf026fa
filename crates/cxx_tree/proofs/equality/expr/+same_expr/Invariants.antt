use Rattle.std.proofs.Common.{◌≡◌, ◌↔◌, drop}
use Rattle.cxx_tree.specs.Blank.{blank_exprs}
use Rattle.cxx_tree.specs.ExprTree.{exprs_tree}
use Rattle.cxx_tree.proofs.equality.expr.+same_expr.Given as goal

-- what is left of the lists is the same exactly where the whole lists are
abbrev pub invariant-same_exprs-loop-first : goal.invariant-same_exprs-loop-first
invariant-same_exprs-loop-first l =
    (blank_exprs (exprs_tree (drop l.first-index l.a)) ≡ blank_exprs (exprs_tree l.rest)) ↔ (blank_exprs (exprs_tree l.a) ≡ blank_exprs (exprs_tree l.fn.b))
