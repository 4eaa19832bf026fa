-- What a run tells.
use Rattle.std.specs.Prelude.{ℕ, ◌+◌}
use Rattle.step_machine.specs.declared.outcome.State.{State}
use Rattle.step_machine.specs.Runs.{Ran, Counts}
use Rattle.fault_model.specs.Progress.{Progress}
use Rattle.plan_runs.specs.declared.report.Report.{Report}

-- what has become of it, how many turns of each kind there were, and how many flips changed a bit
abbrev pub report_by : State → Counts → ℕ → Report
report_by state n flips = record {
  state = state;
  turns = n.source + n.inserted + n.blocked + n.idle;
  source = n.source;
  inserted = n.inserted;
  blocked = n.blocked;
  idle = n.idle;
  flips = flips;
}

abbrev pub report_of : Ran → ℕ → Report
report_of r flips = report_by r.0.state r.1 flips

-- of a run by a plan
abbrev pub report_of_run : Progress → Report
report_of_run p = report_by p.total.state p.counts p.flips
