use Rattle.cxx_print.proofs.Printed.{prints-both}
use Rattle.cxx_print.proofs.printer.Printer.init.Goals as goal

pub returns : goal.returns
returns g c =
    prints-both c.name.ensures (rw c.as_slice.ensures at c.arguments.ensures)
