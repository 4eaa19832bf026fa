use Rattle.std.proofs.Common.{refl}
use Rattle.cxx_print.specs.Document.{◌⨾◌}
use Rattle.cxx_print.specs.Programs as form
use Rattle.cxx_print.proofs.Firsts.{prints-first}
use Rattle.cxx_print.proofs.printer.Printer.separated_params.Goals as goal

pub returns-in-len1-up : goal.returns-in-len1-up
returns-in-len1-up g c =
    prints-first form.separated_params (λ q qs. form.param q ⨾ form.params_after_commas qs) _ c.args.params.now c.in-len1-up.len_at_least (λ x ys. refl) c.param_and_others.ensures
