use Rattle.core_laws.proofs.Renumbered.{kept}
use Rattle.core_laws.proofs.laws.numbering_keeps_core.Goals as goal

pub returns : goal.returns
returns c = kept
