use Rattle.woven_rules.proofs.Accepted as accepted
use Rattle.woven_rules.proofs.laws.each_rule_is_kept.Goals as goal

pub returns : goal.returns
returns c = accepted.each-kept
