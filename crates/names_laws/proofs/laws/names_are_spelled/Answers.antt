use Rattle.names_laws.proofs.SpelledNames.{names-are-spelled}
use Rattle.names_laws.proofs.laws.names_are_spelled.Goals as goal

pub returns : goal.returns
returns c = names-are-spelled
