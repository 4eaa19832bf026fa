use Rattle.cxx_tree.specs.Words as w
use Rattle.cxx_print.specs.Document.{word}
use Rattle.cxx_print.proofs.Printed.{prints-one}
use Rattle.cxx_print.proofs.printer.Printer.include.Goals as goal

pub returns : goal.returns
returns g c = prints-one (word (w.include c.args.header)) c.put.ensures c.header_text.ensures
