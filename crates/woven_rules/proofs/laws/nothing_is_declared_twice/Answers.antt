use Rattle.woven_rules.proofs.NineRules as kept
use Rattle.woven_rules.proofs.laws.nothing_is_declared_twice.Goals as goal

pub returns : goal.returns
returns c = kept.nothing-declared-twice
