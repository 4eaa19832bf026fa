use Rattle.woven_rules.proofs.NineRules as kept
use Rattle.woven_rules.proofs.laws.all_is_allowed_here.Goals as goal

pub returns : goal.returns
returns c = kept.all-allowed
