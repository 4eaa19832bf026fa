use Rattle.cxx_print.proofs.Printed.{prints-both}
use Rattle.cxx_print.proofs.printer.Printer.public_base.Goals as goal

pub returns : goal.returns
returns g c =
    prints-both c.spaced.ensures (prints-both c.keyword.ensures (prints-both c.gap.ensures c.name.ensures))
