use Rattle.cxx_print.proofs.Printed.{prints-both}
use Rattle.cxx_print.proofs.printer.Printer.function.Goals as goal

pub returns : goal.returns
returns g c =
    prints-both c.typed.ensures (prints-both (rw c.as_slice.ensures at c.params.ensures) (prints-both c.gap.ensures c.block.ensures))
