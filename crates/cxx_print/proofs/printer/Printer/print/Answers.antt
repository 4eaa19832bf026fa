use Rattle.cxx_print.proofs.Printed.{prints-both}
use Rattle.cxx_print.proofs.printer.Printer.print.Goals as goal

pub returns : goal.returns
returns g c =
    prints-both c.std_name.ensures (rw c.as_slice.ensures at c.operands.ensures)
