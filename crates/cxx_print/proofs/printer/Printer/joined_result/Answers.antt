use Rattle.cxx_print.proofs.Printed.{prints-both}
use Rattle.cxx_print.proofs.printer.Printer.joined_result.Goals as goal

pub returns : goal.returns
returns g c =
    prints-both c.sign.ensures c.of_join_point.ensures
