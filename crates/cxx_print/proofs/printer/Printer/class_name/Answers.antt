use Rattle.cxx_print.proofs.Printed.{prints-both}
use Rattle.cxx_print.proofs.printer.Printer.class_name.Goals as goal

pub returns : goal.returns
returns g c =
    prints-both c.class_head.ensures c.semicolon.ensures
