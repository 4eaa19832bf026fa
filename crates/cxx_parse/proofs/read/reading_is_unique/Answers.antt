use Rattle.std.proofs.Common.{◌≡◌, [], sym, ◌∙◌}
use Rattle.cxx_expr.specs.Outcome.{done}
use Rattle.cxx_parse.proofs.read.reading_is_unique.Goals as goal

pub returns : goal.returns
returns c mode names ts end a b i j =
    let both : done a [] ≡ done b [] = sym i ∙ j in
    cc
