use Rattle.std.proofs.Common.{drop}
use Rattle.cxx_print.specs.Programs as form
use Rattle.cxx_print.specs.Printing.{State, Prints}
use Rattle.cxx_print.proofs.printer.Printer.directives.Given as goal

abbrev pub invariant-loop-directive : goal.invariant-loop-directive
invariant-loop-directive g l =
    (u : State × g.row.O.Denot) → Prints g.O.Sink.taken g.O.Sink.faults (l.self, l.sink) u (form.directives (drop l.directive-index l.directives)) → Prints g.O.Sink.taken g.O.Sink.faults (l.fn.self, l.fn.sink) u (form.directives l.directives)
