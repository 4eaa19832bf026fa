use Rattle.cxx_rules.proofs.EachNode as walked
use Rattle.cxx_rules.proofs.laws.each_node_once.Goals as goal

pub returns : goal.returns
returns c = walked.each_node
