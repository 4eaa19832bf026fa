use Rattle.woven_rules.proofs.NineRules as kept
use Rattle.woven_rules.proofs.laws.main_stays.Goals as goal

pub returns : goal.returns
returns c = kept.main-is-there
