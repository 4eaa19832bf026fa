use Rattle.cxx_print.proofs.Printed.{prints-both}
use Rattle.cxx_print.proofs.printer.Printer.heading.Goals as goal

pub returns : goal.returns
returns g c =
    prints-both c.typed.ensures (rw c.as_slice.ensures at c.params.ensures)
