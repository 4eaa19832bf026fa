use Rattle.std.proofs.Common.{◌≡◌, ◌≤◌, length, map, ℕ, ◌+◌, ◌*◌, ◌<◌}
use Rattle.cxx_tree.specs.StmtTree.{stmt_tree}
use Rattle.cxx_expr.specs.Descent.{front_of}
use Rattle.cxx_expr.specs.Full.{most_operators}
use Rattle.cxx_stmt.specs.Parts.{braced, braced_from}
use Rattle.cxx_stmt.specs.Statements as grammar
use Rattle.cxx_stmt.proofs.dialect.Dialect.+stmt.Given as goal

abbrev pub decreases-braced : goal.decreases-braced
decreases-braced l = 64 * (l.depth + length l.words.now) + 11

abbrev pub decreases-stmt : goal.decreases-stmt
decreases-stmt l = 64 * (l.depth + length l.words.now) + 10

abbrev pub decreases-keyword_stmt : goal.decreases-keyword_stmt
decreases-keyword_stmt l = 64 * (l.depth + length l.words.now) + 9

abbrev pub decreases-sign_stmt : goal.decreases-sign_stmt
decreases-sign_stmt l = 64 * (l.depth + length l.words.now) + 9

abbrev pub decreases-branch : goal.decreases-branch
decreases-branch l = 64 * (l.depth + length l.words.now) + 8

abbrev pub decreases-while_of : goal.decreases-while_of
decreases-while_of l = 64 * (l.depth + length l.words.now) + 8

abbrev pub decreases-for_of : goal.decreases-for_of
decreases-for_of l = 64 * (l.depth + length l.words.now) + 8

abbrev pub decreases-otherwise : goal.decreases-otherwise
decreases-otherwise l = 64 * (l.depth + length l.words.now) + 7

abbrev pub decreases-behind_else : goal.decreases-behind_else
decreases-behind_else l = 64 * (l.depth + length l.words.now) + 6

abbrev pub decreases-block : goal.decreases-block
decreases-block l = 64 * (l.depth + length l.words.now) + 5

abbrev pub invariant-braced-stmts : goal.invariant-braced-stmts
invariant-braced-stmts l = record {
  shorter : length l.words ≤ length l.fn.words;
  reads : (n : ℕ) × (length l.words < n) × (braced (λ ts. grammar.stmt most_operators l.fn.self l.fn.depth ts) l.fn.words ≡ front_of (map stmt_tree l.found) (braced_from (λ ts. grammar.stmt most_operators l.fn.self l.fn.depth ts) n l.words));
}

abbrev pub decreases-braced-stmts : goal.decreases-braced-stmts
decreases-braced-stmts l = length l.words
