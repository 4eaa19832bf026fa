use Rattle.std.proofs.Common.{◌∙◌}
use Rattle.cxx_tree.specs.ProgramTree.{program_tree}
use Rattle.cxx_print.specs.Programs as form
use Rattle.cxx_print.proofs.Printed.{counted}
use Rattle.cxx_print.proofs.writing.text_len.Goals as goal

pub returns : goal.returns
returns c = c.count.ensures ∙ counted c.args.names.now _ c.program.new.sink c.program.new.self (form.program (program_tree c.args.program.now)) (rw c.new-printer.ensures at c.program.ensures)
