use Rattle.cxx_tree.proofs.Counted.{program-counted}
use Rattle.cxx_tree.proofs.laws.nodes_are_folded.Goals as goal

pub returns : goal.returns
returns c = program-counted
