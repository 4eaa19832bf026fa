use Rattle.cxx_print.proofs.Printed.{prints-both}
use Rattle.cxx_print.proofs.printer.Printer.value_behind.Goals as goal

pub returns : goal.returns
returns g c =
    prints-both c.gap.ensures c.expr.ensures
