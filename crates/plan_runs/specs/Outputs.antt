-- What a run that writes its output to a sink answers.
use Rattle.std.specs.Prelude.{ℕ, ◌≡◌, ◌≤◌, List, length, take, Option, Result, OnOk, OnErr, IfErr}
use Rattle.agxx_base.specs.Causes.{Rose}
use Rattle.agxx_base.specs.Sink.{appended}
use Rattle.plan_runs.specs.declared.report.RunError.{RunError}
use Rattle.plan_runs.specs.declared.report.RunError.TheVariants.{WriteFault}

-- At Ok all of the output was appended to what the sink had taken. After an error a prefix of it was, and at
-- `WriteFault` the count of faults rose.
pub record WritesOutput {T : Type 0} (taken taken_after : Option (List ℕ)) (output : List ℕ) (before now : ℕ)
    (result : Result T RunError) : Type 0 where
  pub later : before ≤ now
  pub all : OnOk result (taken_after ≡ appended taken output)
  pub prefix : OnErr result ((n : ℕ) × (n ≤ length output) × (taken_after ≡ appended taken (take n output)))
  pub fault : IfErr result (λ e. e ≡ WriteFault → Rose before now)
