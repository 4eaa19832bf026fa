use Rattle.std.proofs.Common.{drop}
use Rattle.cxx_print.specs.Programs as form
use Rattle.cxx_print.specs.Printing.{State, Prints}
use Rattle.cxx_print.proofs.printer.Printer.params_after_commas.Given as goal

abbrev pub invariant-loop-param : goal.invariant-loop-param
invariant-loop-param g l =
    (u : State × g.row.O.Denot) → Prints g.O.Sink.taken g.O.Sink.faults (l.self, l.sink) u (form.params_after_commas (drop l.param-index l.params)) → Prints g.O.Sink.taken g.O.Sink.faults (l.fn.self, l.fn.sink) u (form.params_after_commas l.params)
