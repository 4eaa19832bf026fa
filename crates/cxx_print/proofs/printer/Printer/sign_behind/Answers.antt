use Rattle.cxx_print.proofs.Printed.{prints-both}
use Rattle.cxx_print.proofs.printer.Printer.sign_behind.Goals as goal

pub returns : goal.returns
returns g c =
    prints-both c.left.ensures c.sign.ensures
