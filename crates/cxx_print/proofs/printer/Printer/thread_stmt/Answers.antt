use Rattle.cxx_print.proofs.Printed.{prints-both}
use Rattle.cxx_print.proofs.printer.Printer.thread_stmt.Goals as goal

pub returns : goal.returns
returns g c =
    prints-both c.thread.ensures c.semicolon.ensures
