use Rattle.cxx_tree.specs.ProgramTree.{program_tree}
use Rattle.cxx_print.specs.Programs as form
use Rattle.cxx_print.proofs.Printed.{written}
use Rattle.cxx_print.proofs.writing.print.Goals as goal

pub returns : goal.returns
returns g c =
    written c.args.names.now c.args.sink.now c.program.new.sink c.flush.new.sink c.program.new.self c.flush.new.self (form.program (program_tree c.args.program.now)) c.outcome.result (rw c.new-printer.ensures at c.program.ensures) c.flush.ensures.appends c.flush.ensures.held c.outcome.ensures
