use Rattle.cxx_print.proofs.Printed.{prints-both}
use Rattle.cxx_print.proofs.printer.Printer.selector.Goals as goal

pub returns : goal.returns
returns g c =
    prints-both c.base.ensures c.name.ensures
