use Rattle.cxx_print.proofs.Printed.{prints-both}
use Rattle.cxx_print.proofs.printer.Printer.simple_stmt.Goals as goal

pub returns : goal.returns
returns g c =
    prints-both c.simple.ensures c.semicolon.ensures
