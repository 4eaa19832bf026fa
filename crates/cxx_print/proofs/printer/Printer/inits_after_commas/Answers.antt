use Rattle.std.proofs.Common.{refl, map}
use Rattle.cxx_print.specs.Programs as form
use Rattle.cxx_tree.specs.ProgramTree.{init_tree}
use Rattle.cxx_print.proofs.Printed.{prints-turn, prints-done}
use Rattle.cxx_print.proofs.printer.Printer.inits_after_commas.Goals as goal

pub loop-init-init : goal.loop-init-init
loop-init-init g c = λ u h. h

pub loop-init-preserved : goal.loop-init-preserved
loop-init-preserved g c =
    prints-turn (λ is. form.inits_after_commas (map init_tree is)) c.args.inits.now c.loop-init.init-index c.init-item.result c.loop-init-test.true c.init-item.is (λ ys. refl) c.loop-init.invariant c.init_after_comma.ensures

pub returns : goal.returns
returns g c =
    prints-done (λ is. form.inits_after_commas (map init_tree is)) c.args.inits.now c.loop-init.init-index c.loop-init-test.false refl c.loop-init.invariant
