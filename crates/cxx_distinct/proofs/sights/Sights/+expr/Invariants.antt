use Rattle.std.proofs.Common.{◌≡◌, drop}
use Rattle.cxx_tree.specs.ExprTree.{exprs_tree}
use Rattle.cxx_distinct.specs.NamesIn.{names_in_exprs}
use Rattle.cxx_distinct.specs.Sights.{seen}
use Rattle.cxx_distinct.proofs.sights.Sights.+expr.Given as goal

-- the names that were gone through, and then those of what is left, are all
abbrev pub invariant-exprs-loop-expr : goal.invariant-exprs-loop-expr
invariant-exprs-loop-expr l = seen l.self (names_in_exprs (exprs_tree (drop l.expr-index l.exprs))) ≡ seen l.fn.self (names_in_exprs (exprs_tree l.exprs))
