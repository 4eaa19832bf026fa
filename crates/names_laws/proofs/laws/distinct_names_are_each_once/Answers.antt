use Rattle.names_laws.proofs.DistinctNames.{distinct-names}
use Rattle.names_laws.proofs.laws.distinct_names_are_each_once.Goals as goal

pub returns : goal.returns
returns c = distinct-names
