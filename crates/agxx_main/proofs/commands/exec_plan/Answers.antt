use Rattle.std.proofs.Common.{ap, subst}
use Rattle.agxx_base.specs.Refusals.{least}
use Rattle.agxx_main.specs.Answers.{refused_plan, accepted_plan}
use Rattle.agxx_main.specs.CallAnswers.{executes}
use Rattle.agxx_main.specs.Replies.{answer_of, seen}
use Rattle.agxx_main.proofs.Texts.{if-ok}
use Rattle.agxx_main.proofs.commands.exec_plan.Goals as goal

pub returns-in-Ok : goal.returns-in-Ok
returns-in-Ok c =
    if-ok c.exec.result _ _ (λ r x. accepted_plan (ap least c.in-Ok.ensures.clean) (subst (λ p. executes (seen c.args.program) p (answer_of r)) c.in-Ok.ensures.plan x)) c.exec.ensures

pub returns-in-Err-Refused : goal.returns-in-Err-Refused
returns-in-Err-Refused c =
    if-ok c.refused.result _ _ (λ r e. refused_plan c.in-Err-Refused.refusal (rw c.in-Err-Refused.field-0-is at c.in-Err-Refused.ensures.refused) e) c.refused.ensures
