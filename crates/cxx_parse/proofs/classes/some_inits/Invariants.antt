use Rattle.std.proofs.Common.{◌≡◌, ◌≤◌, ◌<◌, length, map, ℕ}
use Rattle.cxx_tree.specs.ProgramTree.{init_tree}
use Rattle.cxx_expr.specs.Descent.{front_of}
use Rattle.cxx_expr.specs.Full.{most_operators}
use Rattle.cxx_stmt.specs.declared.dialect.Dialect.{Dialect}
use Rattle.cxx_stmt.specs.Parts.{some, some_from}
use Rattle.cxx_parse.specs.Classes.{init}
use Rattle.cxx_parse.proofs.classes.some_inits.Given as goal

abbrev pub invariant-items : goal.invariant-items
invariant-items l = record {
  shorter : length l.words ≤ length l.fn.words;
  reads : (d : Dialect) → (n : ℕ) × (length l.words < n) × (some (init most_operators d l.fn.depth) l.fn.words ≡ front_of (map init_tree l.found) (some_from (init most_operators d l.fn.depth) n l.words));
}

abbrev pub decreases-items : goal.decreases-items
decreases-items l = length l.words
