use Rattle.cxx_print.proofs.Printed.{prints-both}
use Rattle.cxx_print.proofs.printer.Printer.delete_stmt.Goals as goal

pub returns : goal.returns
returns g c =
    prints-both c.delete_word.ensures c.semicolon.ensures
