use Rattle.std.proofs.Common.{ap, ◌∙◌, vec_items}
use Rattle.agxx_base.specs.Names.{is_known, number_of}
use Rattle.agxx_base.proofs.Interning.{known-seen, number-found}
use Rattle.agxx_base.proofs.names.Names.find.Goals as goal

pub returns-in-Some-clause-known : goal.returns-in-Some-clause-known
returns-in-Some-clause-known c =
    c.in-Some.ensures.found ∙ known-seen vec_items c.args.text.now c.self.inside.texts.keys ∙ ap (λ names. is_known names c.args.text.now) c.self.view_is

pub returns-in-Some-clause-number : goal.returns-in-Some-clause-number
returns-in-Some-clause-number c =
    number-found vec_items c.args.text.now c.self.inside.texts.keys c.in-Some.index c.in-Some.ensures.index ∙ ap (λ names. number_of names c.args.text.now) c.self.view_is

pub returns-in-None-clause-known : goal.returns-in-None-clause-known
returns-in-None-clause-known c =
    c.in-None.ensures.found ∙ known-seen vec_items c.args.text.now c.self.inside.texts.keys ∙ ap (λ names. is_known names c.args.text.now) c.self.view_is
