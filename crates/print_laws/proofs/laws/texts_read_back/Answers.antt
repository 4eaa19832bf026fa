use Rattle.print_laws.proofs.ReadBack.{texts-read-back}
use Rattle.print_laws.proofs.laws.texts_read_back.Goals as goal

pub returns : goal.returns
returns c = texts-read-back
