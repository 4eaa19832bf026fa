use Rattle.cxx_print.proofs.Printed.{prints-both}
use Rattle.cxx_print.proofs.printer.Printer.item_line.Goals as goal

pub returns : goal.returns
returns g c =
    prints-both (rw c.item_level.ensures at c.indented.ensures) (prints-both c.item.ensures c.newline.ensures)
