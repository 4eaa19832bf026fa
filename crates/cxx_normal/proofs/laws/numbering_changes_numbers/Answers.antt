use Rattle.cxx_normal.proofs.Blanked.{program-alike}
use Rattle.cxx_normal.proofs.laws.numbering_changes_numbers.Goals as goal

pub returns : goal.returns
returns c = program-alike
