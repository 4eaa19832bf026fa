use Rattle.std.proofs.Common.{drop, map}
use Rattle.cxx_print.specs.Programs as form
use Rattle.cxx_tree.specs.ProgramTree.{item_tree}
use Rattle.cxx_print.specs.Printing.{State, Prints}
use Rattle.cxx_print.proofs.printer.Printer.items.Given as goal

abbrev pub invariant-loop-item : goal.invariant-loop-item
invariant-loop-item g l =
    (u : State × g.row.O.Denot) → Prints g.O.Sink.taken g.O.Sink.faults (l.self, l.sink) u (form.items (map item_tree (drop l.item-index l.items))) → Prints g.O.Sink.taken g.O.Sink.faults (l.fn.self, l.fn.sink) u (form.items (map item_tree l.items))
