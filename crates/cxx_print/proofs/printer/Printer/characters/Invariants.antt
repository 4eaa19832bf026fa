use Rattle.std.proofs.Common.{drop}
use Rattle.std.specs.List.{flat_map}
use Rattle.cxx_print.specs.Texts.{escaped}
use Rattle.cxx_print.specs.Printing.{State, Appends}
use Rattle.cxx_print.proofs.printer.Printer.characters.Given as goal

abbrev pub invariant-loop-byte : goal.invariant-loop-byte
invariant-loop-byte g l =
    (u : State × g.row.O.Denot) → Appends g.O.Sink.taken g.O.Sink.faults (l.self, l.sink) u (flat_map escaped (drop l.byte-index l.bytes)) → Appends g.O.Sink.taken g.O.Sink.faults (l.fn.self, l.fn.sink) u (flat_map escaped l.bytes)
