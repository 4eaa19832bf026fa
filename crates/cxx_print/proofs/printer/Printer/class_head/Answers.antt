use Rattle.cxx_print.proofs.Printed.{prints-both}
use Rattle.cxx_print.proofs.printer.Printer.class_head.Goals as goal

pub returns : goal.returns
returns g c =
    prints-both c.class_word.ensures (prints-both c.gap.ensures c.name.ensures)
