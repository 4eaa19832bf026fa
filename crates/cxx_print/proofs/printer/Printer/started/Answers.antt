use Rattle.cxx_print.proofs.Printed.{prints-both}
use Rattle.cxx_print.proofs.printer.Printer.started.Goals as goal

pub returns : goal.returns
returns g c =
    prints-both c.sign.ensures (prints-both c.function_and_arguments.ensures c.sign-2.ensures)
