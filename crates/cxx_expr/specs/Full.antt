-- Full expressions: those that are no part of another one.
use Rattle.std.specs.Prelude.{ℕ}
use Rattle.cxx_tree.specs.ExprTree.{ExprTree}
use Rattle.cxx_tree.specs.Fits.{expr_level, sum_level}
use Rattle.cxx_expr.specs.Tokens.{Tokens}
use Rattle.cxx_expr.specs.Outcome.{Parse}
use Rattle.cxx_expr.specs.Within.{full}
use Rattle.cxx_expr.specs.Descent.{level, inner_at}

-- how many operators a full expression may have
abbrev pub most_operators : ℕ
most_operators = 400

-- A full expression, of so many operators at most and with operators up to a level outside parentheses, which nest no
-- deeper than depth.
unfoldable pub full_level : ℕ → ℕ → ℕ → Parse Tokens ExprTree
full_level most depth l = full most (level (inner_at depth) l)

abbrev pub full_expr : ℕ → Parse Tokens ExprTree
full_expr depth = full_level most_operators depth expr_level

abbrev pub full_sum : ℕ → Parse Tokens ExprTree
full_sum depth = full_level most_operators depth sum_level
