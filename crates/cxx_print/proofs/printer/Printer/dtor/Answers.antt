use Rattle.cxx_print.proofs.Printed.{prints-both}
use Rattle.cxx_print.proofs.printer.Printer.dtor.Goals as goal

pub returns : goal.returns
returns g c =
    prints-both c.sign.ensures (prints-both c.name.ensures (prints-both c.no_arguments.ensures (prints-both c.gap.ensures c.block.ensures)))
