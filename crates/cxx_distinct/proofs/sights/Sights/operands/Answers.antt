use Rattle.std.proofs.Common.{refl, map, List}
use Rattle.cxx_tree.specs.declared.stmt.Printed.{Printed}
use Rattle.cxx_tree.specs.StmtTree.{printed_tree}
use Rattle.cxx_distinct.specs.NamesIn.{names_in_each, names_in_printed}
use Rattle.cxx_distinct.proofs.Runs.{seen_more}
use Rattle.cxx_distinct.proofs.sights.Sights.operands.Goals as goal

pub loop-operand-preserved : goal.loop-operand-preserved
loop-operand-preserved c = seen_more (λ (xs : List Printed). names_in_each names_in_printed (map printed_tree xs)) c.args.operands.now c.loop-operand.operand-index c.operand-item.result _ c.loop-operand.self c.printed.new.self _ c.loop-operand-test.true c.operand-item.is refl c.in_ok-printed.ensures c.loop-operand.invariant
