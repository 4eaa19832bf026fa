use Rattle.cxx_print.proofs.Printed.{prints-both}
use Rattle.cxx_print.proofs.printer.Printer.directive_line.Goals as goal

pub returns : goal.returns
returns g c =
    prints-both c.indented.ensures (prints-both c.directive.ensures c.newline.ensures)
