use Rattle.woven_rules.proofs.Accepted as accepted
use Rattle.woven_rules.proofs.laws.not_too_many_arise.Goals as goal

pub returns : goal.returns
returns c = accepted.not-too-many
