use Rattle.cxx_print.proofs.Printed.{prints-both}
use Rattle.cxx_print.proofs.printer.Printer.label.Goals as goal

pub returns : goal.returns
returns g c =
    prints-both c.access.ensures c.sign.ensures
