use Rattle.cxx_normal.proofs.Idempotent.{normal-twice}
use Rattle.cxx_normal.proofs.laws.normal_is_idempotent.Goals as goal

pub returns : goal.returns
returns c = normal-twice
