use Rattle.cxx_print.proofs.Printed.{prints-both}
use Rattle.cxx_print.proofs.printer.Printer.negative.Goals as goal

pub returns : goal.returns
returns g c =
    prints-both c.sign.ensures c.number.ensures
