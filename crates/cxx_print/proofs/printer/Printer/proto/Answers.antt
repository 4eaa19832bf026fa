use Rattle.cxx_print.proofs.Printed.{prints-both}
use Rattle.cxx_print.proofs.printer.Printer.proto.Goals as goal

pub returns : goal.returns
returns g c =
    prints-both c.heading.ensures c.semicolon.ensures
