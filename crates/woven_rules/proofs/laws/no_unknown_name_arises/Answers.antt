use Rattle.woven_rules.proofs.NineRules as kept
use Rattle.woven_rules.proofs.laws.no_unknown_name_arises.Goals as goal

pub returns : goal.returns
returns c = kept.no-unknown-name
