use Rattle.cxx_print.proofs.Printed.{margins-turn, margins-done}
use Rattle.cxx_print.proofs.printer.Printer.indented.Goals as goal

pub loop-left-init : goal.loop-left-init
loop-left-init g c = λ u h. h

pub loop-left-preserved : goal.loop-left-preserved
loop-left-preserved g c = margins-turn c.loop-left.left c.loop-left-test.true c.loop-left.invariant c.margin.ensures

pub returns : goal.returns
returns g c = margins-done c.loop-left.left c.loop-left-test.false c.loop-left.invariant
