use Rattle.cxx_print.proofs.Printed.{prints-both}
use Rattle.cxx_print.proofs.printer.Printer.spaced.Goals as goal

pub returns : goal.returns
returns g c =
    prints-both c.gap.ensures (prints-both c.sign.ensures c.gap-2.ensures)
