use Rattle.cxx_print.proofs.Printed.{prints-both}
use Rattle.cxx_print.proofs.printer.Printer.signed_operand.Goals as goal

pub returns : goal.returns
returns g c =
    prints-both c.spaced.ensures c.operand.ensures
