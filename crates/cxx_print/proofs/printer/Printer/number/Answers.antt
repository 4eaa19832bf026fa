use Rattle.std.proofs.Common.{◌++◌, decimal, ap, ◌∙◌}
use Rattle.cxx_tree.specs.Words as w
use Rattle.cxx_print.specs.Document.{word}
use Rattle.cxx_print.proofs.Printed.{prints-one, appends-both}
use Rattle.cxx_print.proofs.printer.Printer.number.Goals as goal

pub returns : goal.returns
returns g c = prints-one (word (w.number c.args.number.bits c.args.number.kind)) (appends-both c.put.ensures c.put-2.ensures)
    (ap (λ t. t ++ c.suffix.result.now) (c.as_bytes.ensures.value ∙ c.format.ensures.text) ∙ ap (λ t. decimal c.args.number.bits ++ t) c.suffix.ensures)
