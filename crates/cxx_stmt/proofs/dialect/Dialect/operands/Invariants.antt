use Rattle.std.proofs.Common.{◌≡◌, ◌≤◌, ◌<◌, length, map, ℕ}
use Rattle.cxx_tree.specs.StmtTree.{printed_tree}
use Rattle.cxx_expr.specs.Descent.{front_of}
use Rattle.cxx_expr.specs.Full.{most_operators}
use Rattle.cxx_stmt.specs.Streams.{operand, operands, operands_from}
use Rattle.cxx_stmt.proofs.dialect.Dialect.operands.Given as goal

abbrev pub invariant-operands : goal.invariant-operands
invariant-operands l = record {
  shorter : length l.words ≤ length l.fn.words;
  reads : (n : ℕ) × (length l.words < n) × (operands most_operators l.fn.self l.fn.depth l.fn.words ≡ front_of (map printed_tree l.found) (operands_from (operand most_operators l.fn.self l.fn.depth) n l.words));
}

abbrev pub decreases-operands : goal.decreases-operands
decreases-operands l = length l.words
