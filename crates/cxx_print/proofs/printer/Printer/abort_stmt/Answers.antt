use Rattle.cxx_print.proofs.Printed.{prints-both}
use Rattle.cxx_print.proofs.printer.Printer.abort_stmt.Goals as goal

pub returns : goal.returns
returns g c =
    prints-both c.abort.ensures c.semicolon.ensures
