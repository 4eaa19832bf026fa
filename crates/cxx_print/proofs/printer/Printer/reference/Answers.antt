use Rattle.cxx_print.proofs.Printed.{prints-both}
use Rattle.cxx_print.proofs.printer.Printer.reference.Goals as goal

pub returns : goal.returns
returns g c =
    prints-both c.scope.ensures c.name.ensures
