use Rattle.woven_rules.proofs.NineRules as kept
use Rattle.woven_rules.proofs.laws.no_types_disagree.Goals as goal

pub returns : goal.returns
returns c = kept.types-agree
