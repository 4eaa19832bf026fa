use Rattle.std.proofs.Common.{refl}
use Rattle.cxx_print.specs.Document.{newline}
use Rattle.cxx_print.proofs.Printed.{prints-one}
use Rattle.cxx_print.proofs.printer.Printer.newline.Goals as goal

pub returns : goal.returns
returns g c = prints-one (newline) c.put.ensures refl
