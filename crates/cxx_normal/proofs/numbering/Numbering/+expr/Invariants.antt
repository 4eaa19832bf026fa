use Rattle.std.proofs.Common.{drop}
use Rattle.cxx_tree.specs.ExprTree.{expr_tree}
use Rattle.cxx_normal.specs.Numbers.{number_expr}
use Rattle.cxx_normal.proofs.Loops.{IsNumbered, parts}
use Rattle.cxx_normal.proofs.numbering.Numbering.+expr.Given as goal

abbrev pub invariant-exprs-loop-expr : goal.invariant-exprs-loop-expr
invariant-exprs-loop-expr l =
    IsNumbered expr_tree number_expr (parts expr_tree number_expr l.exprs l.fn.self.next) l.copies (drop l.expr-index l.exprs) l.self.next
