use Rattle.hamming_laws.proofs.Flips.{words-mend}
use Rattle.hamming_laws.proofs.laws.words_mend.Goals as goal

pub returns : goal.returns
returns c = words-mend
