use Rattle.cxx_print.proofs.Printed.{prints-both}
use Rattle.cxx_print.proofs.printer.Printer.thread.Goals as goal

pub returns : goal.returns
returns g c =
    prints-both c.std_name.ensures (prints-both c.gap.ensures (prints-both c.name.ensures c.started.ensures))
