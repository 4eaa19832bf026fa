use Rattle.cxx_normal.proofs.Counted.{program-counted}
use Rattle.cxx_normal.proofs.laws.numbers_are_counted.Goals as goal

pub returns : goal.returns
returns c = program-counted
