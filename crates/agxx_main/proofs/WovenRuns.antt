-- What a run of a woven program tells.
use Rattle.std.proofs.Common.{◌≡◌, ℕ, List, Result, Ok, Err, ap, ◌∙◌}
use Rattle.std.specs.Prelude.{IfOk}
use Rattle.flip_plan.specs.Plans.{PlanMeaning}
use Rattle.fault_model.specs.declared.verdict.Verdict.{Verdict}
use Rattle.step_machine.specs.Setting.{Setting}
use Rattle.step_machine.specs.Machine.{Machine}
use Rattle.step_machine.specs.Start.{start}
use Rattle.plan_runs.specs.declared.report.Report.{Report}
use Rattle.plan_runs.specs.Reports.{report_of_run}
use Rattle.plan_runs.specs.Runs.{planned}
use Rattle.agxx_main.specs.RunAnswers.{told_answer, progress_answer, woven_run_answer}

pub told_is : (plan : PlanMeaning) (file : List ℕ) (s : Setting) (m : Machine) (out : List ℕ) (r : Report) (v : Verdict) → m ≡ start s
    → out ≡ (planned plan m).total.output → r ≡ report_of_run (planned plan m) → v ≡ (planned plan m).verdict
    → told_answer file s out r v ≡ woven_run_answer plan file s
told_is plan file s m out r v e o k d =
    (λ j. told_answer file s (o j) (k j) (d j)) ∙ ap (λ x. progress_answer file s (planned plan x)) e

pub told-also : {T E : Type 0} (r : Result T E) (a b : T) → a ≡ b → IfOk r (λ x. x ≡ a) → IfOk r (λ x. x ≡ b)
told-also (Ok x) a b e h = h ∙ e
told-also (Err x) a b e h = tt
