use Rattle.std.proofs.Common.{refl}
use Rattle.cxx_tree.specs.StmtTree.{printed_tree}
use Rattle.cxx_normal.specs.Numbers.{number_printed}
use Rattle.cxx_normal.proofs.Loops.{each-turn, each-done, parts}
use Rattle.cxx_normal.proofs.numbering.Numbering.operands.Goals as goal

pub loop-operand-preserved : goal.loop-operand-preserved
loop-operand-preserved c =
    each-turn printed_tree number_printed _ c.args.operands.now c.loop-operand.operand-index c.operand-item.result c.in_ok-printed.field-0 c.loop-operand.copies c.push.new.self c.loop-operand.self.next c.printed.new.self.next c.loop-operand.invariant c.loop-operand-test.true c.operand-item.is c.in_ok-push.ensures.ok c.in_ok-printed.ensures

pub returns : goal.returns
returns c =
    let whole = parts printed_tree number_printed c.args.operands.now c.args.self.now.next in
    let done = each-done printed_tree number_printed whole c.args.operands.now c.loop-operand.operand-index c.loop-operand.copies c.loop-operand.self.next c.loop-operand.invariant c.loop-operand-test.false in
    rw (← done) (refl, refl)
