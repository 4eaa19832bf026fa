use Rattle.std.proofs.Common.{refl}
use Rattle.cxx_tree.specs.ExprTree.{exprs_tree}
use Rattle.cxx_print.specs.Expressions as base
use Rattle.cxx_print.specs.Programs as form
use Rattle.cxx_print.proofs.Printed.{prints-same}
use Rattle.cxx_print.proofs.printer.Printer.object_arguments.Goals as goal

pub returns-in-len1-up : goal.returns-in-len1-up
returns-in-len1-up g c =
    prints-same (λ es. form.object_arguments (exprs_tree es)) (λ es. base.arguments (exprs_tree es)) c.args.arguments.now c.in-len1-up.len_at_least (λ x ys. refl) c.arguments.ensures
