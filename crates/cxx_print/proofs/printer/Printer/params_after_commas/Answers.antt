use Rattle.std.proofs.Common.{refl}
use Rattle.cxx_print.specs.Programs as form
use Rattle.cxx_print.specs.Document.{◌⨾◌}
use Rattle.cxx_print.specs.Expressions.{comma}
use Rattle.cxx_print.proofs.Printed.{prints-turn-copied, prints-done}
use Rattle.cxx_print.proofs.printer.Printer.params_after_commas.Goals as goal

pub loop-param-init : goal.loop-param-init
loop-param-init g c = λ u h. h

pub loop-param-preserved : goal.loop-param-preserved
loop-param-preserved g c =
    prints-turn-copied (form.params_after_commas) (λ q. comma ⨾ form.param q) c.args.params.now c.loop-param.param-index _ c.loop-param-test.true (λ x ys. refl) c.loop-param.invariant c.param_after_comma.ensures

pub returns : goal.returns
returns g c =
    prints-done (form.params_after_commas) c.args.params.now c.loop-param.param-index c.loop-param-test.false refl c.loop-param.invariant
