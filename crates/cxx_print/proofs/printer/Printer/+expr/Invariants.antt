use Rattle.std.proofs.Common.{drop}
use Rattle.cxx_tree.specs.ExprTree.{exprs_tree}
use Rattle.cxx_print.specs.Listed.{listed}
use Rattle.cxx_print.specs.Printing.{State, Prints}
use Rattle.cxx_print.proofs.printer.Printer.+expr.Given as goal

abbrev pub invariant-listed-loop-expr : goal.invariant-listed-loop-expr
invariant-listed-loop-expr g l =
    (u : State × g.row.O.Denot) → Prints g.O.Sink.taken g.O.Sink.faults (l.self, l.sink) u (listed l.is_first (exprs_tree (drop l.expr-index l.exprs))) → Prints g.O.Sink.taken g.O.Sink.faults (l.fn.self, l.fn.sink) u (listed l.fn.is_first (exprs_tree l.exprs))
