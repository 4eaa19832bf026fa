use Rattle.cxx_print.proofs.Printed.{prints-both}
use Rattle.cxx_print.proofs.printer.Printer.condition.Goals as goal

pub returns : goal.returns
returns g c =
    prints-both c.optional.ensures c.semicolon.ensures
