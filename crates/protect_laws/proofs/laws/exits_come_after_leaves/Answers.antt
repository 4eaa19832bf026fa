use Rattle.protect_laws.proofs.Exits.{exits-come-after-leaves}
use Rattle.protect_laws.proofs.laws.exits_come_after_leaves.Goals as goal

pub returns : goal.returns
returns c = exits-come-after-leaves
