use Rattle.cxx_print.specs.Document.{special}
use Rattle.cxx_print.proofs.Printed.{prints-one}
use Rattle.cxx_print.proofs.printer.Printer.special_name.Goals as goal

pub returns : goal.returns
returns g c = prints-one (special c.args.name) c.put.ensures c.special_text.ensures
