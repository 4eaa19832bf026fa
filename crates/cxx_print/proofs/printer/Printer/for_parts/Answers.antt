use Rattle.cxx_print.proofs.Printed.{prints-both}
use Rattle.cxx_print.proofs.printer.Printer.for_parts.Goals as goal

pub returns : goal.returns
returns g c =
    prints-both c.first.ensures (prints-both c.gap.ensures (prints-both c.condition.ensures (prints-both c.gap-2.ensures c.step.ensures)))
