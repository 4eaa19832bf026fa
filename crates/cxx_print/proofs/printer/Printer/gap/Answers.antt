use Rattle.std.proofs.Common.{refl}
use Rattle.cxx_print.specs.Document.{blank}
use Rattle.cxx_print.proofs.Printed.{prints-one}
use Rattle.cxx_print.proofs.printer.Printer.gap.Goals as goal

pub returns : goal.returns
returns g c = prints-one (blank) c.put.ensures refl
