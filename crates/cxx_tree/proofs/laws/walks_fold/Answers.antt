use Rattle.cxx_tree.proofs.States.{program-met}
use Rattle.cxx_tree.proofs.Unseen.{program-unseen}
use Rattle.cxx_tree.proofs.laws.walks_fold.Goals as goal

pub returns : goal.returns
returns c start = record {
  unseen = program-unseen;
  folded = program-met;
}
