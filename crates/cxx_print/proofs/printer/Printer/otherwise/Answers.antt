use Rattle.cxx_print.proofs.Printed.{prints-both}
use Rattle.cxx_print.proofs.printer.Printer.otherwise.Goals as goal

pub returns : goal.returns
returns g c =
    prints-both c.gap.ensures (prints-both c.keyword.ensures c.gap-2.ensures)
