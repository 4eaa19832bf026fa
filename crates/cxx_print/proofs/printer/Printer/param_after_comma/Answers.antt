use Rattle.cxx_print.proofs.Printed.{prints-both}
use Rattle.cxx_print.proofs.printer.Printer.param_after_comma.Goals as goal

pub returns : goal.returns
returns g c =
    prints-both c.comma.ensures c.param.ensures
