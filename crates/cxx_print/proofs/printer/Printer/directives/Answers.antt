use Rattle.std.proofs.Common.{refl}
use Rattle.cxx_print.specs.Programs as form
use Rattle.cxx_print.specs.Document.{line}
use Rattle.cxx_print.proofs.Printed.{prints-turn-copied, prints-done}
use Rattle.cxx_print.proofs.printer.Printer.directives.Goals as goal

pub loop-directive-init : goal.loop-directive-init
loop-directive-init g c = λ u h. h

pub loop-directive-preserved : goal.loop-directive-preserved
loop-directive-preserved g c =
    prints-turn-copied (form.directives) (λ x. line 0 (form.directive x)) c.args.directives.now c.loop-directive.directive-index _ c.loop-directive-test.true (λ x ys. refl) c.loop-directive.invariant c.directive_line.ensures

pub returns : goal.returns
returns g c =
    prints-done (form.directives) c.args.directives.now c.loop-directive.directive-index c.loop-directive-test.false refl c.loop-directive.invariant
