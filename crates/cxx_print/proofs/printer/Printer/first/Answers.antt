use Rattle.cxx_print.proofs.Printed.{prints-both}
use Rattle.cxx_print.proofs.printer.Printer.first.Goals as goal

pub returns : goal.returns
returns g c =
    prints-both c.start.ensures c.semicolon.ensures
