use Rattle.cxx_print.proofs.Printed.{prints-both}
use Rattle.cxx_print.proofs.printer.Printer.param_and_others.Goals as goal

pub returns : goal.returns
returns g c =
    prints-both c.param.ensures c.params_after_commas.ensures
