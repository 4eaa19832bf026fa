use Rattle.cxx_print.proofs.Printed.{prints-both}
use Rattle.cxx_print.proofs.printer.Printer.object.Goals as goal

pub returns : goal.returns
returns g c =
    prints-both c.named_object.ensures c.semicolon.ensures
