use Rattle.cxx_print.proofs.Printed.{prints-both}
use Rattle.cxx_print.proofs.printer.Printer.return_stmt.Goals as goal

pub returns : goal.returns
returns g c =
    prints-both c.return_word.ensures c.semicolon.ensures
