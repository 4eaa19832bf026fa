use Rattle.cxx_print.proofs.Printed.{prints-both}
use Rattle.cxx_print.proofs.printer.Printer.variable.Goals as goal

pub returns : goal.returns
returns g c =
    prints-both c.declared.ensures c.semicolon.ensures
