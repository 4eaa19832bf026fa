use Rattle.cxx_arith.proofs.Kept.{values_are_kept}
use Rattle.cxx_arith.proofs.laws.values_are_kept.Goals as goal

pub returns : goal.returns
returns c = values_are_kept
