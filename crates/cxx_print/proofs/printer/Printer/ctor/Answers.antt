use Rattle.cxx_print.proofs.Printed.{prints-both}
use Rattle.cxx_print.proofs.printer.Printer.ctor.Goals as goal

pub returns : goal.returns
returns g c =
    prints-both c.name.ensures (prints-both (rw c.as_slice.ensures at c.params.ensures) (prints-both (rw c.as_slice-2.ensures at c.inits.ensures) (prints-both c.gap.ensures c.block.ensures)))
