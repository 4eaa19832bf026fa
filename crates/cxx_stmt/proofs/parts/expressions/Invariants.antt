use Rattle.std.proofs.Common.{◌≡◌, ◌≤◌, ◌<◌, length, map, ℕ}
use Rattle.cxx_tree.specs.ExprTree.{expr_tree}
use Rattle.cxx_tree.specs.Fits.{expr_level}
use Rattle.cxx_expr.specs.Descent.{front_of}
use Rattle.cxx_expr.specs.Full.{most_operators, full_level}
use Rattle.cxx_stmt.specs.Parts.{expressions, some_from}
use Rattle.cxx_stmt.proofs.parts.expressions.Given as goal

abbrev pub invariant-items : goal.invariant-items
invariant-items l = record {
  shorter : length l.words ≤ length l.fn.words;
  reads : (n : ℕ) × (length l.words < n) × (expressions most_operators l.fn.depth l.fn.words ≡ front_of (map expr_tree l.found) (some_from (full_level most_operators l.fn.depth expr_level) n l.words));
}

abbrev pub decreases-items : goal.decreases-items
decreases-items l = length l.words
