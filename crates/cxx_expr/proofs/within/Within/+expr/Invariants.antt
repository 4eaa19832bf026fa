use Rattle.std.proofs.Common.{◌≡◌, ◌≤◌, length, map, ℕ, ◌+◌, ◌-◌, ◌*◌, ◌<◌}
use Rattle.cxx_tree.specs.ExprTree.{expr_tree}
use Rattle.cxx_expr.specs.Descent as grammar
use Rattle.cxx_expr.specs.Descent.{inner_at, front_of, items_from, chain}
use Rattle.cxx_expr.proofs.within.Within.+expr.Given as goal

abbrev pub decreases-expr : goal.decreases-expr
decreases-expr l = 64 * (l.depth + length l.self.now.words) + 40

abbrev pub decreases-level : goal.decreases-level
decreases-level l = 64 * (l.depth + length l.self.now.words) + 23 + l.level

abbrev pub decreases-items : goal.decreases-items
decreases-items l = 64 * (l.depth + length l.self.now.words) + 41

abbrev pub decreases-arguments : goal.decreases-arguments
decreases-arguments l = 64 * (l.depth + length l.self.now.words) + 16

abbrev pub decreases-called : goal.decreases-called
decreases-called l = 64 * (l.depth + length l.self.now.words) + 17

abbrev pub decreases-created : goal.decreases-created
decreases-created l = 64 * (l.depth + length l.self.now.words) + 19

abbrev pub decreases-created_with : goal.decreases-created_with
decreases-created_with l = 64 * (l.depth + length l.self.now.words) + 18

abbrev pub decreases-own : goal.decreases-own
decreases-own l = 64 * (l.depth + length l.self.now.words) + 18

abbrev pub decreases-named : goal.decreases-named
decreases-named l = 64 * (l.depth + length l.self.now.words) + 18

abbrev pub decreases-enclosed : goal.decreases-enclosed
decreases-enclosed l = 64 * (l.depth + length l.self.now.words) + 16

abbrev pub decreases-grouped : goal.decreases-grouped
decreases-grouped l = 64 * (l.depth + length l.self.now.words) + 17

abbrev pub decreases-converted : goal.decreases-converted
decreases-converted l = 64 * (l.depth + length l.self.now.words) + 17

abbrev pub decreases-keyword : goal.decreases-keyword
decreases-keyword l = 64 * (l.depth + length l.self.now.words) + 20

abbrev pub decreases-primary : goal.decreases-primary
decreases-primary l = 64 * (l.depth + length l.self.now.words) + 21

abbrev pub decreases-unary : goal.decreases-unary
decreases-unary l = 64 * (l.depth + length l.self.now.words) + 22

abbrev pub invariant-items-items : goal.invariant-items-items
invariant-items-items l = record {
  shorter : length l.self.words ≤ length l.fn.self.words;
  reads : (n : ℕ) × (length l.self.words < n) × (grammar.items (λ s. grammar.expr l.fn.depth s) l.fn.self ≡ front_of (map expr_tree l.found) (items_from (λ s. grammar.expr l.fn.depth s) n l.self));
}

abbrev pub decreases-items-items : goal.decreases-items-items
decreases-items-items l = length l.self.words

abbrev pub invariant-level-loop-op : goal.invariant-level-loop-op
invariant-level-loop-op l = record {
  shorter : length l.self.words ≤ length l.fn.self.words;
  positive : 0 < l.fn.level;
  reads : (n : ℕ) × (length l.self.words ≤ n) × (grammar.level (inner_at l.fn.depth) l.fn.level l.fn.self ≡ chain (λ s. grammar.level (inner_at l.fn.depth) (l.fn.level - 1) s) l.fn.level n (expr_tree l.first) l.self);
}

abbrev pub decreases-level-loop-op : goal.decreases-level-loop-op
decreases-level-loop-op l = length l.self.words
