use Rattle.cxx_print.proofs.Printed.{prints-both}
use Rattle.cxx_print.proofs.printer.Printer.program.Goals as goal

pub returns : goal.returns
returns g c =
    prints-both (rw c.as_slice.ensures at c.directives.ensures) (rw c.as_slice-2.ensures at c.decls.ensures)
