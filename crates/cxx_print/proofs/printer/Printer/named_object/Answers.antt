use Rattle.cxx_print.proofs.Printed.{prints-both}
use Rattle.cxx_print.proofs.printer.Printer.named_object.Goals as goal

pub returns : goal.returns
returns g c =
    prints-both c.name.ensures (prints-both c.gap.ensures (prints-both c.name-2.ensures (rw c.as_slice.ensures at c.object_arguments.ensures)))
