use Rattle.woven_rules.proofs.NineRules as kept
use Rattle.woven_rules.proofs.laws.all_is_accessible.Goals as goal

pub returns : goal.returns
returns c = kept.all-accessible
