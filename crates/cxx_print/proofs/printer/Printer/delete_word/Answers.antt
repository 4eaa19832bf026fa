use Rattle.cxx_print.proofs.Printed.{prints-both}
use Rattle.cxx_print.proofs.printer.Printer.delete_word.Goals as goal

pub returns : goal.returns
returns g c =
    prints-both c.keyword.ensures c.value_behind.ensures
