use Rattle.woven_rules.proofs.NineRules as kept
use Rattle.woven_rules.proofs.laws.each_base_is_declared_before.Goals as goal

pub returns : goal.returns
returns c = kept.bases-are-declared-before
