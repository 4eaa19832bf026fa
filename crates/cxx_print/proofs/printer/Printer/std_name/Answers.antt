use Rattle.cxx_print.proofs.Printed.{prints-both}
use Rattle.cxx_print.proofs.printer.Printer.std_name.Goals as goal

pub returns : goal.returns
returns g c =
    prints-both c.special_name.ensures (prints-both c.sign.ensures c.special_name-2.ensures)
