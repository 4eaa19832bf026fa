use Rattle.std.proofs.Common.{refl}
use Rattle.cxx_print.specs.Document.{margin}
use Rattle.cxx_print.proofs.Printed.{prints-one}
use Rattle.cxx_print.proofs.printer.Printer.margin.Goals as goal

pub returns : goal.returns
returns g c = prints-one (margin) c.put.ensures refl
