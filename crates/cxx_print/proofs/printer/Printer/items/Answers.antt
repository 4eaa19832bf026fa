use Rattle.std.proofs.Common.{refl, map}
use Rattle.cxx_print.specs.Programs as form
use Rattle.cxx_tree.specs.ProgramTree.{item_tree}
use Rattle.cxx_print.proofs.Printed.{prints-turn, prints-done}
use Rattle.cxx_print.proofs.printer.Printer.items.Goals as goal

pub loop-item-init : goal.loop-item-init
loop-item-init g c = λ u h. h

pub loop-item-preserved : goal.loop-item-preserved
loop-item-preserved g c =
    prints-turn (λ is. form.items (map item_tree is)) c.args.items.now c.loop-item.item-index c.item-item.result c.loop-item-test.true c.item-item.is (λ ys. refl) c.loop-item.invariant c.item_line.ensures

pub returns : goal.returns
returns g c =
    prints-done (λ is. form.items (map item_tree is)) c.args.items.now c.loop-item.item-index c.loop-item-test.false refl c.loop-item.invariant
