use Rattle.woven_rules.proofs.NineRules as kept
use Rattle.woven_rules.proofs.laws.addresses_are_of_global_objects.Goals as goal

pub returns : goal.returns
returns c = kept.addresses-of-global-objects
