use Rattle.std.proofs.Common.{◌≡◌, ◌≤◌, ◌<◌, length, ℕ}
use Rattle.cxx_expr.specs.Descent.{front_of}
use Rattle.cxx_parse.specs.Programs.{directives, directives_from}
use Rattle.cxx_parse.proofs.programs.directives.Given as goal

abbrev pub invariant-items : goal.invariant-items
invariant-items l = record {
  shorter : length l.words ≤ length l.fn.words;
  reads : (n : ℕ) × (length l.words < n) × (directives l.fn.words ≡ front_of l.found (directives_from n l.words));
}

abbrev pub decreases-items : goal.decreases-items
decreases-items l = length l.words
