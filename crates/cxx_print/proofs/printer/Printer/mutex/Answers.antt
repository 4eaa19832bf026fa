use Rattle.cxx_print.proofs.Printed.{prints-both}
use Rattle.cxx_print.proofs.printer.Printer.mutex.Goals as goal

pub returns : goal.returns
returns g c =
    prints-both c.named_mutex.ensures c.semicolon.ensures
