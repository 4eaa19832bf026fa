use Rattle.cxx_print.proofs.Printed.{prints-both}
use Rattle.cxx_print.proofs.printer.Printer.init_and_others.Goals as goal

pub returns : goal.returns
returns g c =
    prints-both c.spaced.ensures (prints-both c.init.ensures c.inits_after_commas.ensures)
