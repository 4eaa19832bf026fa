use Rattle.agxx_main.specs.Replies.{answer_of, seen}
use Rattle.agxx_main.proofs.Texts.{if-ok}
use Rattle.agxx_main.proofs.Weavings.{by-default, by-file, one-short}
use Rattle.agxx_main.proofs.commands.exec_by.Goals as goal

pub exec_plan-requires-clause-plan : goal.exec_plan-requires-clause-plan
exec_plan-requires-clause-plan c =
    one-short c.args.plans.now 0 c.plan-item.result _ c.in-len1-up.len_at_least c.plan-item.is c.requires.plans

pub returns-in_ok-default_plan-in-empty : goal.returns-in_ok-default_plan-in-empty
returns-in_ok-default_plan-in-empty c =
    if-ok c.exec-in-empty.result _ _ (λ r x. by-default (seen c.args.program) c.args.plans.now _ (answer_of r) c.in-empty.len_below c.in_ok-default_plan-in-empty.ensures x) c.exec-in-empty.ensures

pub returns-in-len1-up : goal.returns-in-len1-up
returns-in-len1-up c =
    if-ok c.exec_plan.result _ _ (λ r x. by-file (seen c.args.program) c.args.plans.now c.plan-item.result _ (answer_of r) c.in-len1-up.len_at_least c.plan-item.is x) c.exec_plan.ensures
