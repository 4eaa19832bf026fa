use Rattle.steady_laws.proofs.Entry.{entry-elaborates}
use Rattle.steady_laws.proofs.laws.entry_is_what_is_generated.Goals as goal

pub returns : goal.returns
returns c = entry-elaborates
