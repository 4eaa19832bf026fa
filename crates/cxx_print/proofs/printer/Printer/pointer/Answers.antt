use Rattle.cxx_print.proofs.Printed.{prints-both}
use Rattle.cxx_print.proofs.printer.Printer.pointer.Goals as goal

pub returns : goal.returns
returns g c =
    prints-both c.id.ensures c.sign.ensures
