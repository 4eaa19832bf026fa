use Rattle.std.proofs.Common.{refl, map}
use Rattle.cxx_print.specs.Statements as form
use Rattle.cxx_tree.specs.StmtTree.{printed_tree}
use Rattle.cxx_print.proofs.Printed.{prints-turn, prints-done}
use Rattle.cxx_print.proofs.printer.Printer.operands.Goals as goal

pub loop-operand-init : goal.loop-operand-init
loop-operand-init g c = λ u h. h

pub loop-operand-preserved : goal.loop-operand-preserved
loop-operand-preserved g c =
    prints-turn (λ os. form.operands (map printed_tree os)) c.args.operands.now c.loop-operand.operand-index c.operand-item.result c.loop-operand-test.true c.operand-item.is (λ ys. refl) c.loop-operand.invariant c.signed_operand.ensures

pub returns : goal.returns
returns g c =
    prints-done (λ os. form.operands (map printed_tree os)) c.args.operands.now c.loop-operand.operand-index c.loop-operand-test.false refl c.loop-operand.invariant
