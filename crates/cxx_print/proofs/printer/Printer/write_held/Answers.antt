use Rattle.cxx_print.proofs.Printed.{appends-written}
use Rattle.cxx_print.proofs.printer.Printer.write_held.Goals as goal

pub returns-clause-appends : goal.returns-clause-appends
returns-clause-appends g c =
    rw (c.clear.ensures, c.is_err.ensures.value) (appends-written c.args.self.now c.args.sink.now c.write_whole-written.new.sink c.write_whole-written.result c.requires (rw c.held.ensures at c.write_whole-written.ensures.answer))
