use Rattle.cxx_tree.proofs.Larger.{program-larger}
use Rattle.cxx_tree.proofs.laws.larger_limits_fit.Goals as goal

pub returns : goal.returns
returns c = program-larger
