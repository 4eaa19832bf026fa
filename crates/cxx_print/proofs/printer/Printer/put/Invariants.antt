use Rattle.std.proofs.Common.{drop}
use Rattle.cxx_print.specs.Printing.{State, Appends}
use Rattle.cxx_print.proofs.printer.Printer.put.Given as goal

abbrev pub invariant-loop-byte : goal.invariant-loop-byte
invariant-loop-byte g l =
    (u : State × g.row.O.Denot) → Appends g.O.Sink.taken g.O.Sink.faults (l.self, l.sink) u ((drop l.byte-index l.bytes)) → Appends g.O.Sink.taken g.O.Sink.faults (l.fn.self, l.fn.sink) u (l.bytes)
