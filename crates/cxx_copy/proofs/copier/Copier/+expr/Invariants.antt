use Rattle.std.proofs.Common.{◌≡◌, ◌++◌, drop, map}
use Rattle.cxx_tree.specs.ExprTree.{expr_tree}
use Rattle.cxx_copy.proofs.copier.Copier.+expr.Given as goal

-- what was copied, and then what is left, is the whole
abbrev pub invariant-exprs-loop-expr : goal.invariant-exprs-loop-expr
invariant-exprs-loop-expr l = map expr_tree l.copies ++ map expr_tree (drop l.expr-index l.exprs) ≡ map expr_tree l.exprs
