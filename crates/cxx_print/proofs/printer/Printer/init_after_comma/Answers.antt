use Rattle.cxx_print.proofs.Printed.{prints-both}
use Rattle.cxx_print.proofs.printer.Printer.init_after_comma.Goals as goal

pub returns : goal.returns
returns g c =
    prints-both c.comma.ensures c.init.ensures
