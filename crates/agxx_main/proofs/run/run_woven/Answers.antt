use Rattle.std.proofs.Common.{rules, ◌∙◌}
use Rattle.agxx_main.specs.RunAnswers.{woven_run_answer}
use Rattle.agxx_main.proofs.WovenRuns.{told_is, told-also}
use Rattle.agxx_main.proofs.run.run_woven.Goals as goal

pub returns-in-Ok : goal.returns-in-Ok
returns-in-Ok c =
    told-also c.answer_woven.result _ (woven_run_answer c.args.plan.now c.args.file.now c.args.setting.now)
    (told_is c.args.plan.now c.args.file.now c.args.setting.now c.in_ok-run.run' _ _ _ c.in_ok-run.ensures (search rules) c.in-Ok.ensures.report
    (c.verdict-verdict.ensures ∙ c.in-Ok.ensures.verdict))
    c.answer_woven.ensures
