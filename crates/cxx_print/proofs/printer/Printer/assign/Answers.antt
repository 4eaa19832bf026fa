use Rattle.cxx_print.proofs.Printed.{prints-both}
use Rattle.cxx_print.proofs.printer.Printer.assign.Goals as goal

pub returns : goal.returns
returns g c =
    prints-both c.left.ensures (prints-both (rw c.assign_sign.ensures at c.spaced.ensures) c.expr.ensures)
