-- What the run of a program answers.
use Rattle.std.specs.Prelude.{ℕ, List, [], ◌∷◌, ◌++◌, Option, Some, None, codes, slice_get}
use Rattle.std.specs.Fmt.{decimal, signed_decimal}
use Rattle.agxx_base.specs.declared.ids.ClassId.{ClassId}
use Rattle.agxx_base.specs.declared.ids.ObjectId.{ObjectId}
use Rattle.agxx_base.specs.declared.kind.Mode.{Mode}
use Rattle.agxx_base.specs.declared.kind.Mode.TheVariants as mode
use Rattle.agxx_base.specs.declared.status.Status.{Status}
use Rattle.agxx_base.specs.declared.status.Status.TheVariants as status_of
use Rattle.cxx_tree.specs.ProgramTree.{ProgramTree}
use Rattle.cxx_core.specs.CoreProgram.{CoreClass}
use Rattle.cxx_core.specs.ElaboratedProgram.{core_program}
use Rattle.flip_plan.specs.Plans.{PlanMeaning}
use Rattle.step_machine.specs.declared.outcome.State.{State}
use Rattle.step_machine.specs.declared.outcome.State.TheVariants as state
use Rattle.step_machine.specs.declared.outcome.Stop.{Stop}
use Rattle.step_machine.specs.declared.outcome.Stop.TheVariants as stop
use Rattle.step_machine.specs.Setting.{Setting, class_at}
use Rattle.step_machine.specs.Start.{start}
use Rattle.step_machine.specs.Runs.{Ran}
use Rattle.plan_runs.specs.declared.report.Report.{Report}
use Rattle.fault_model.specs.declared.verdict.Verdict.{Verdict}
use Rattle.fault_model.specs.declared.verdict.Verdict.TheVariants as verdict
use Rattle.fault_model.specs.Progress.{Progress}
use Rattle.plan_runs.specs.Reports.{report_of, report_of_run}
use Rattle.plan_runs.specs.Runs.{planned, unflipped}
use Rattle.agxx_main.specs.declared.answer.Answer.{Answer}
use Rattle.agxx_main.specs.declared.way.Way.{Way}
use Rattle.agxx_main.specs.declared.way.Way.TheVariants as way

abbrev pub setting_of : List (List ℕ) → ProgramTree → Setting
setting_of names q = record { names = names; program = core_program names q }

-- ---- the status

abbrev pub run_status : State → Status
run_status (state.Ended value) = status_of.Done
run_status (state.Stopped cause at) = status_of.Stopped
run_status (state.Halted object class) = status_of.Halted
run_status state.Running = status_of.Unfinished
-- no run by the definition comes to this
run_status state.Lost = status_of.Unfinished

-- ---- the lines for standard error

abbrev pub cause_text : Stop → List ℕ
cause_text stop.Overflow = codes "Overflow"
cause_text stop.ZeroDivisor = codes "ZeroDivisor"
cause_text stop.Shift = codes "Shift"
cause_text stop.Null = codes "Null"
cause_text stop.Dead = codes "Dead"
cause_text stop.WrongDelete = codes "WrongDelete"
cause_text stop.Busy = codes "Busy"
cause_text stop.SelfLock = codes "SelfLock"
cause_text stop.NotHeld = codes "NotHeld"
cause_text stop.NotJoinable = codes "NotJoinable"
cause_text stop.Joinable = codes "Joinable"
cause_text stop.NoReturn = codes "NoReturn"
cause_text stop.Objects = codes "Objects"
cause_text stop.Threads = codes "Threads"
cause_text stop.Depth = codes "Depth"
cause_text stop.Output = codes "Output"

abbrev pub text_or_none : Option (List ℕ) → List ℕ
text_or_none None = []
text_or_none (Some text) = text

abbrev pub class_text : Setting → Option CoreClass → List ℕ
class_text s None = []
class_text s (Some class) = text_or_none (slice_get s.names class.name.item.0)

-- with the object, and the class of the function that halted, where there are such
abbrev pub halted_text : Setting → Option ObjectId → Option ClassId → List ℕ
halted_text s (Some object) (Some class) =
    codes "halted object " ++ decimal object.0 ++ codes " part " ++ class_text s (class_at s class)
halted_text s _ _ = codes "halted"

abbrev pub state_text : List ℕ → Setting → State → List ℕ
state_text file s (state.Ended value) = codes "ended " ++ signed_decimal value
state_text file s (state.Stopped cause at) = codes "stopped " ++ cause_text cause ++ codes " " ++ file ++ codes ":" ++ decimal at.line ++ codes ":" ++ decimal at.column
state_text file s (state.Halted object class) = halted_text s object class
state_text file s state.Running = codes "running"
state_text file s state.Lost = codes "running"

-- how many turns were taken, of each kind, and how many flips changed a bit
abbrev pub turns_text : Report → List ℕ
turns_text r =
    codes "turns " ++ decimal r.turns ++ codes " source " ++ decimal r.source ++ codes " inserted " ++ decimal r.inserted ++ codes " blocked " ++ decimal r.blocked ++ codes " idle " ++ decimal r.idle ++ codes " flips " ++ decimal r.flips

abbrev pub summary : List ℕ → Setting → Report → List ℕ
summary file s r = state_text file s r.state ++ 10 ∷ [] ++ turns_text r ++ 10 ∷ []

-- whether the flips that came were admissible, and else the line of the first that wasn't
abbrev pub verdict_text : Verdict → List ℕ
verdict_text verdict.Admissible = codes "verdict admissible"
verdict_text (verdict.First number) = codes "verdict inadmissible flip " ++ decimal number

abbrev pub woven_summary : List ℕ → Setting → Report → Verdict → List ℕ
woven_summary file s r v = summary file s r ++ verdict_text v ++ 10 ∷ []

-- ---- the answer

abbrev pub ran_answer : List ℕ → Setting → Ran → ℕ → Answer
ran_answer file s r flips = record { status = run_status r.0.state; out = r.0.world.output; diag = summary file s (report_of r flips) }

-- of a run with its flips
abbrev pub told_answer : List ℕ → Setting → List ℕ → Report → Verdict → Answer
told_answer file s out r v = record { status = run_status r.state; out = out; diag = woven_summary file s r v }

abbrev pub progress_answer : List ℕ → Setting → Progress → Answer
progress_answer file s p = told_answer file s p.total.output (report_of_run p) p.verdict

-- run as a woven program, by a plan with its flips,
abbrev pub woven_run_answer : PlanMeaning → List ℕ → Setting → Answer
woven_run_answer plan file s = progress_answer file s (planned plan (start s))

-- or as a source, with the flips set aside
abbrev pub source_run_answer : PlanMeaning → List ℕ → Setting → Answer
source_run_answer plan file s = ran_answer file s (unflipped plan (start s)) 0

-- what a program answers that violates no rule, where names have these texts
abbrev pub woven_answer : PlanMeaning → List ℕ → List (List ℕ) → ProgramTree → Answer
woven_answer plan file names q = woven_run_answer plan file (setting_of names q)

abbrev pub source_answer : PlanMeaning → List ℕ → List (List ℕ) → ProgramTree → Answer
source_answer plan file names q = source_run_answer plan file (setting_of names q)

-- ---- the same by the way in which a program is run

abbrev pub mode_of : Way → Mode
mode_of (way.Woven plan) = mode.Woven
mode_of (way.Source plan) = mode.Source

abbrev pub run_answer : Way → List ℕ → Setting → Answer
run_answer (way.Woven plan) = woven_run_answer plan.now
run_answer (way.Source plan) = source_run_answer plan.now

abbrev pub way_answer : Way → List ℕ → List (List ℕ) → ProgramTree → Answer
way_answer (way.Woven plan) = woven_answer plan.now
way_answer (way.Source plan) = source_answer plan.now
