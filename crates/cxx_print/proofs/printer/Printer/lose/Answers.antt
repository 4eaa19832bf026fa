use Rattle.cxx_print.proofs.Printed.{appends-lost}
use Rattle.cxx_print.proofs.printer.Printer.lose.Goals as goal

pub returns-clause-appends : goal.returns-clause-appends
returns-clause-appends g c = rw c.clear.ensures (appends-lost c.args.self.now c.args.sink.now c.requires)
