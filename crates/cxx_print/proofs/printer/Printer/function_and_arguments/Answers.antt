use Rattle.cxx_print.proofs.Printed.{prints-both}
use Rattle.cxx_print.proofs.printer.Printer.function_and_arguments.Goals as goal

pub returns : goal.returns
returns g c =
    prints-both c.reference.ensures (rw c.as_slice.ensures at c.after_commas.ensures)
