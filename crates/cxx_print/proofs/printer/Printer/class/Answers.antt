use Rattle.cxx_print.proofs.Printed.{prints-both}
use Rattle.cxx_print.proofs.printer.Printer.class.Goals as goal

pub returns : goal.returns
returns g c =
    prints-both c.class_head.ensures (prints-both c.optional_base.ensures (prints-both c.gap.ensures (rw c.as_slice.ensures at c.class_body.ensures)))
