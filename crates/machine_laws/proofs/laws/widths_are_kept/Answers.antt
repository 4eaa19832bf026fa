use Rattle.machine_laws.proofs.Widths.{widths-are-kept}
use Rattle.machine_laws.proofs.laws.widths_are_kept.Goals as goal

pub returns : goal.returns
returns c = widths-are-kept
