use Rattle.std.proofs.Common.{drop, map}
use Rattle.cxx_print.specs.Statements as form
use Rattle.cxx_tree.specs.StmtTree.{printed_tree}
use Rattle.cxx_print.specs.Printing.{State, Prints}
use Rattle.cxx_print.proofs.printer.Printer.operands.Given as goal

abbrev pub invariant-loop-operand : goal.invariant-loop-operand
invariant-loop-operand g l =
    (u : State × g.row.O.Denot) → Prints g.O.Sink.taken g.O.Sink.faults (l.self, l.sink) u (form.operands (map printed_tree (drop l.operand-index l.operands))) → Prints g.O.Sink.taken g.O.Sink.faults (l.fn.self, l.fn.sink) u (form.operands (map printed_tree l.operands))
