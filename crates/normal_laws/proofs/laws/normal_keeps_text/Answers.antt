use Rattle.normal_laws.proofs.Kept.{normal-is-written, normal-fits-woven}
use Rattle.normal_laws.proofs.laws.normal_keeps_text.Goals as goal

pub returns : goal.returns
returns c = record { written = normal-is-written; fits = normal-fits-woven }
