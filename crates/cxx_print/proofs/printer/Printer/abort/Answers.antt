use Rattle.cxx_print.proofs.Printed.{prints-both}
use Rattle.cxx_print.proofs.printer.Printer.abort.Goals as goal

pub returns : goal.returns
returns g c =
    prints-both c.std_name.ensures c.no_arguments.ensures
