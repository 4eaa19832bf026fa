use Rattle.cxx_print.proofs.Printed.{prints-both}
use Rattle.cxx_print.proofs.printer.Printer.decl_line.Goals as goal

pub returns : goal.returns
returns g c =
    prints-both c.indented.ensures (prints-both c.decl.ensures c.newline.ensures)
