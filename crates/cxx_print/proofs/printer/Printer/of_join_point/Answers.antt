use Rattle.cxx_print.proofs.Printed.{prints-both}
use Rattle.cxx_print.proofs.printer.Printer.of_join_point.Goals as goal

pub returns : goal.returns
returns g c =
    prints-both c.keyword.ensures (prints-both c.sign.ensures (prints-both c.special_name.ensures c.no_arguments.ensures))
