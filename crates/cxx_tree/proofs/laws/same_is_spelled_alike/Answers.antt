use Rattle.cxx_tree.proofs.Tokens.{spelled_alike}
use Rattle.cxx_tree.proofs.laws.same_is_spelled_alike.Goals as goal

pub returns : goal.returns
returns c = spelled_alike
