use Rattle.std.proofs.Common.{refl}
use Rattle.cxx_tree.specs.Words as w
use Rattle.cxx_print.specs.Document.{word}
use Rattle.cxx_print.proofs.Printed.{prints-one}
use Rattle.cxx_print.proofs.printer.Printer.pragma.Goals as goal

pub returns : goal.returns
returns g c = prints-one (word w.pragma) c.put.ensures refl
