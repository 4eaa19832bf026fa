use Rattle.std.proofs.Common.{◌≡◌, ◌≤◌, ◌<◌, length, map, ℕ}
use Rattle.cxx_tree.specs.ProgramTree.{item_tree}
use Rattle.cxx_expr.specs.Descent.{front_of}
use Rattle.cxx_expr.specs.Full.{most_operators}
use Rattle.cxx_stmt.specs.Parts.{braced, braced_from}
use Rattle.cxx_parse.specs.Classes.{item}
use Rattle.cxx_parse.proofs.classes.braced_items.Given as goal

abbrev pub invariant-items : goal.invariant-items
invariant-items l = record {
  shorter : length l.words ≤ length l.fn.words;
  reads : (n : ℕ) × (length l.words < n) × (braced (item most_operators l.fn.dialect l.fn.depth) l.fn.words ≡ front_of (map item_tree l.found) (braced_from (item most_operators l.fn.dialect l.fn.depth) n l.words));
}

abbrev pub decreases-items : goal.decreases-items
decreases-items l = length l.words
