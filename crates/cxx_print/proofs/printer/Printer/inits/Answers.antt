use Rattle.std.proofs.Common.{refl, map}
use Rattle.agxx_base.specs.declared.vocabulary.Sign.TheVariants as sg
use Rattle.cxx_tree.specs.ProgramTree.{init_tree}
use Rattle.cxx_print.specs.Document.{◌⨾◌}
use Rattle.cxx_print.specs.Expressions.{spaced}
use Rattle.cxx_print.specs.Programs as form
use Rattle.cxx_print.proofs.Firsts.{prints-first-owned}
use Rattle.cxx_print.proofs.printer.Printer.inits.Goals as goal

pub returns-in-len1-up : goal.returns-in-len1-up
returns-in-len1-up g c =
    prints-first-owned (λ is. form.inits (map init_tree is)) (λ i is. spaced sg.Colon ⨾ form.init (init_tree i) ⨾ form.inits_after_commas (map init_tree is)) c.args.inits.now c.first-item.result c.in-len1-up.len_at_least c.first-item.is (λ x ys. refl) c.init_and_others.ensures
