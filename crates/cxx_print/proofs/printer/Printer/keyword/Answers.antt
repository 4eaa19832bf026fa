use Rattle.cxx_tree.specs.Words as w
use Rattle.cxx_print.specs.Document.{word}
use Rattle.cxx_print.proofs.Printed.{prints-one}
use Rattle.cxx_print.proofs.printer.Printer.keyword.Goals as goal

pub returns : goal.returns
returns g c = prints-one (word (w.keyword c.args.keyword)) c.put.ensures c.keyword_text.ensures
