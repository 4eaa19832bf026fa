use Rattle.std.proofs.Common.{◌≡◌, ◌∙◌, true}
use Rattle.agxx_calls.proofs.Parsed.{rest-same}
use Rattle.agxx_calls.proofs.parse.are_words.Goals as goal

pub returns-then-eq : goal.returns-then-eq
returns-then-eq c f e =
    let t : c.eq-then-eq.result ≡ true = c.eq-then-eq.ensures ∙ rest-same c.args.words.now c.args.values.now c.args.name.now e in cc
