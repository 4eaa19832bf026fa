use Rattle.std.proofs.Common.{drop}
use Rattle.cxx_print.specs.Statements as form
use Rattle.cxx_tree.specs.StmtTree.{stmts_tree}
use Rattle.cxx_print.specs.Printing.{State, Prints}
use Rattle.cxx_print.proofs.printer.Printer.+stmt.Given as goal

abbrev pub invariant-stmts-loop-stmt : goal.invariant-stmts-loop-stmt
invariant-stmts-loop-stmt g l =
    (u : State × g.row.O.Denot) → Prints g.O.Sink.taken g.O.Sink.faults (l.self, l.sink) u (form.stmts l.level (stmts_tree (drop l.stmt-index l.stmts))) → Prints g.O.Sink.taken g.O.Sink.faults (l.fn.self, l.fn.sink) u (form.stmts l.level (stmts_tree l.stmts))
