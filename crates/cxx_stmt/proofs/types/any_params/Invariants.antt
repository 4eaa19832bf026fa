use Rattle.std.proofs.Common.{◌≡◌, ◌≤◌, ◌<◌, length, ℕ}
use Rattle.cxx_expr.specs.Descent.{front_of}
use Rattle.cxx_stmt.specs.Parts.{any, some_from}
use Rattle.cxx_stmt.specs.Types.{param}
use Rattle.cxx_stmt.proofs.types.any_params.Given as goal

abbrev pub invariant-items : goal.invariant-items
invariant-items l = record {
  shorter : length l.words ≤ length l.fn.words;
  reads : (n : ℕ) × (length l.words < n) × (any param l.fn.words ≡ front_of l.found (some_from param n l.words));
}

abbrev pub decreases-items : goal.decreases-items
decreases-items l = length l.words
