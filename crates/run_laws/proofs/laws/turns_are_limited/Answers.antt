use Rattle.run_laws.proofs.TurnLimits.{turns-are-limited}
use Rattle.run_laws.proofs.laws.turns_are_limited.Goals as goal

pub returns : goal.returns
returns c = turns-are-limited
