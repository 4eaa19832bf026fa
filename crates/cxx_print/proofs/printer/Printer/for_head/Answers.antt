use Rattle.cxx_print.proofs.Printed.{prints-both}
use Rattle.cxx_print.proofs.printer.Printer.for_head.Goals as goal

pub returns : goal.returns
returns g c =
    prints-both c.keyword.ensures (prints-both c.gap.ensures (prints-both c.sign.ensures (prints-both c.for_parts.ensures c.sign-2.ensures)))
