use Rattle.std.proofs.Common.{drop, map}
use Rattle.cxx_print.specs.Programs as form
use Rattle.cxx_tree.specs.ProgramTree.{decl_tree}
use Rattle.cxx_print.specs.Printing.{State, Prints}
use Rattle.cxx_print.proofs.printer.Printer.decls.Given as goal

abbrev pub invariant-loop-decl : goal.invariant-loop-decl
invariant-loop-decl g l =
    (u : State × g.row.O.Denot) → Prints g.O.Sink.taken g.O.Sink.faults (l.self, l.sink) u (form.decls (map decl_tree (drop l.decl-index l.decls))) → Prints g.O.Sink.taken g.O.Sink.faults (l.fn.self, l.fn.sink) u (form.decls (map decl_tree l.decls))
