use Rattle.hamming_laws.proofs.PositionsOfWords.{positions-are-all}
use Rattle.hamming_laws.proofs.laws.positions_are_all.Goals as goal

pub returns : goal.returns
returns c = positions-are-all
