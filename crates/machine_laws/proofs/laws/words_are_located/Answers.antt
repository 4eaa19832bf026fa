use Rattle.machine_laws.proofs.Locates.{words-are-located}
use Rattle.machine_laws.proofs.laws.words_are_located.Goals as goal

pub returns : goal.returns
returns c = words-are-located
