use Rattle.cxx_print.specs.Document.{indented}
use Rattle.cxx_print.specs.Printing.{State, Prints}
use Rattle.cxx_print.proofs.printer.Printer.indented.Given as goal

abbrev pub invariant-loop-left : goal.invariant-loop-left
invariant-loop-left g l =
    (u : State × g.row.O.Denot) → Prints g.O.Sink.taken g.O.Sink.faults (l.self, l.sink) u (indented l.left) → Prints g.O.Sink.taken g.O.Sink.faults (l.fn.self, l.fn.sink) u (indented l.level)

abbrev pub decreases-loop-left : goal.decreases-loop-left
decreases-loop-left g l = l.left
