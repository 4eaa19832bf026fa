-- How many parts there are.
use Rattle.std.proofs.Common.{◌≡◌, refl, ap, ℕ, suc, List, [], ◌∷◌, length}
use Rattle.cxx_tree.specs.declared.expr.Expr.{Expr}
use Rattle.cxx_tree.specs.ExprTree.{exprs_tree}
use Rattle.cxx_types.specs.Expressions.{count}

pub count_is : (es : List Expr) → count (exprs_tree es) ≡ length es
count_is [] = refl
count_is (first ∷ rest) = ap suc (count_is rest)
