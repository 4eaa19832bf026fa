use Rattle.print_laws.proofs.Programs.{texts-are-spelled}
use Rattle.print_laws.proofs.laws.texts_are_spelled.Goals as goal

pub returns : goal.returns
returns c = texts-are-spelled
