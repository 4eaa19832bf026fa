use Rattle.cxx_rules.proofs.EachRule as each
use Rattle.cxx_rules.proofs.laws.each_rule_by_itself.Goals as goal

pub returns : goal.returns
returns c = each.each_rule
