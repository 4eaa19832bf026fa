use Rattle.std.proofs.Common.{drop, map}
use Rattle.cxx_print.specs.Programs as form
use Rattle.cxx_tree.specs.ProgramTree.{init_tree}
use Rattle.cxx_print.specs.Printing.{State, Prints}
use Rattle.cxx_print.proofs.printer.Printer.inits_after_commas.Given as goal

abbrev pub invariant-loop-init : goal.invariant-loop-init
invariant-loop-init g l =
    (u : State × g.row.O.Denot) → Prints g.O.Sink.taken g.O.Sink.faults (l.self, l.sink) u (form.inits_after_commas (map init_tree (drop l.init-index l.inits))) → Prints g.O.Sink.taken g.O.Sink.faults (l.fn.self, l.fn.sink) u (form.inits_after_commas (map init_tree l.inits))
