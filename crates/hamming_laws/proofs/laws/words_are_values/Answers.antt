use Rattle.hamming_laws.proofs.WordValues.{words-are-values}
use Rattle.hamming_laws.proofs.laws.words_are_values.Goals as goal

pub returns : goal.returns
returns c = words-are-values
