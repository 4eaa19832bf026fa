use Rattle.normal_laws.proofs.Same.{normal-respects-same}
use Rattle.normal_laws.proofs.laws.normal_respects_same.Goals as goal

pub returns : goal.returns
returns c = normal-respects-same
