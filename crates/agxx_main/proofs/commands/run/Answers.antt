use Rattle.std.proofs.Common.{ap, subst}
use Rattle.agxx_base.specs.Refusals.{least}
use Rattle.agxx_main.specs.Answers.{refused_plan, accepted_plan}
use Rattle.agxx_main.specs.Replies.{answer_of, all_seen}
use Rattle.agxx_main.specs.Weaving.{IsSourceAnswer, runs}
use Rattle.agxx_main.proofs.Texts.{if-ok}
use Rattle.agxx_main.proofs.commands.run.Goals as goal

pub returns-in-Ok : goal.returns-in-Ok
returns-in-Ok c =
    if-ok c.answer_sources.result _ _ (λ r x. accepted_plan (ap least c.in-Ok.ensures.clean) (subst (λ p. IsSourceAnswer (all_seen c.args.sources) (runs p) (answer_of r)) c.in-Ok.ensures.plan x)) c.answer_sources.ensures

pub returns-in-Err-Refused : goal.returns-in-Err-Refused
returns-in-Err-Refused c =
    if-ok c.refused.result _ _ (λ r e. refused_plan c.in-Err-Refused.refusal (rw c.in-Err-Refused.field-0-is at c.in-Err-Refused.ensures.refused) e) c.refused.ensures
