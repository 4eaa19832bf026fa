use Rattle.cxx_print.proofs.Printed.{prints-both}
use Rattle.cxx_print.proofs.printer.Printer.member.Goals as goal

pub returns : goal.returns
returns g c =
    prints-both c.typed.ensures c.semicolon.ensures
