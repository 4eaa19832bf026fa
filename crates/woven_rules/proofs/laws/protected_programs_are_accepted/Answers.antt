use Rattle.woven_rules.proofs.Accepted as accepted
use Rattle.woven_rules.proofs.laws.protected_programs_are_accepted.Goals as goal

pub returns : goal.returns
returns c = accepted.accepted
