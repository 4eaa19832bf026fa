use Rattle.std.proofs.Common.{◌≡◌, ◌∙◌, ℕ, List, ap, subst}
use Rattle.fault_model.specs.Progress.{Progress}
use Rattle.plan_runs.specs.declared.report.Report.{Report}
use Rattle.plan_runs.specs.Outputs.{WritesOutput}
use Rattle.plan_runs.specs.Reports.{report_of_run}
use Rattle.plan_runs.specs.Runs.{planned}
use Rattle.woven_steps.proofs.Told.{always, told-also}
use Rattle.woven_steps.proofs.woven_run.WovenRun.run.Goals as goal

pub returns-clause-total : goal.returns-clause-total
returns-clause-total g c =
    always c.write_output.result
    (c.in-Ok.ensures.total ∙ ap (λ (p : Progress). p.total) (ap (planned c.args.plan.now) c.self.view_is))

pub returns-clause-report : goal.returns-clause-report
returns-clause-report g c =
    told-also c.write_output.result c.in-Ok.report (report_of_run (planned c.args.plan.now c.args.self.now))
    (c.in-Ok.ensures.report ∙ ap report_of_run (ap (planned c.args.plan.now) c.self.view_is)) c.write_output.ensures.report

pub returns-clause-erased : goal.returns-clause-erased
returns-clause-erased g c =
    always c.write_output.result
    (c.in-Ok.ensures.erased ∙ ap (λ (p : Progress). p.erased) (ap (planned c.args.plan.now) c.self.view_is))

pub returns-clause-verdict : goal.returns-clause-verdict
returns-clause-verdict g c =
    always c.write_output.result
    (c.in-Ok.ensures.verdict ∙ ap (λ (p : Progress). p.verdict) (ap (planned c.args.plan.now) c.self.view_is))

pub returns-clause-output : goal.returns-clause-output
returns-clause-output g c =
    subst
    (λ (out : List ℕ). WritesOutput {T = Report} (g.O.Sink.taken c.args.sink.now) (g.O.Sink.taken c.write_output.new.sink) out
    (g.O.Sink.faults c.args.sink.now) (g.O.Sink.faults c.write_output.new.sink) c.write_output.result)
    (c.output.ensures ∙ c.in-Ok.ensures.output ∙ ap (λ (p : Progress). p.total.output) (ap (planned c.args.plan.now) c.self.view_is))
    c.write_output.ensures.output
