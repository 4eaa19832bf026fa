use Rattle.cxx_arith.proofs.Kept.{numbers_are_kept}
use Rattle.cxx_arith.proofs.laws.numbers_are_kept.Goals as goal

pub returns : goal.returns
returns c = numbers_are_kept
