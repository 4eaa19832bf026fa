use Rattle.cxx_print.proofs.Printed.{prints-both}
use Rattle.cxx_print.proofs.printer.Printer.keyword_with.Goals as goal

pub returns : goal.returns
returns g c =
    prints-both c.keyword.ensures c.sign.ensures
