use Rattle.woven_rules.proofs.NineRules as kept
use Rattle.woven_rules.proofs.laws.no_wrong_number_of_arguments_arises.Goals as goal

pub returns : goal.returns
returns c = kept.numbers-of-arguments-agree
