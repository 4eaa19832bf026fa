-- What each command answers for the texts of its files, and the whole answer for words and files that are told.
use Rattle.std.specs.Prelude.{◌≡◌, ◌≤◌, ◌+◌, ℕ, List, [], ◌∷◌, drop, length}
use Rattle.agxx_base.specs.Files.{Listing}
use Rattle.agxx_base.specs.declared.kind.Mode.TheVariants as mode
use Rattle.flip_plan.specs.Plans.{PlanMeaning, default_plan}
use Rattle.agxx_calls.specs.declared.command.Call.{Call}
use Rattle.agxx_calls.specs.declared.command.Command.{Command}
use Rattle.agxx_calls.specs.declared.command.Command.TheVariants as command
use Rattle.agxx_calls.specs.declared.command.File.{File}
use Rattle.agxx_calls.specs.Commands.{kinds_of, most_of, Means, IsUsage}
use Rattle.agxx_main.specs.declared.answer.Answer.{Answer}
use Rattle.agxx_main.specs.Answers.{usage, IsTextAnswer, Plans, OpensAll}
use Rattle.agxx_main.specs.RunAnswers.{woven_answer}
use Rattle.agxx_main.specs.Weaving.{Sheet, sheet, sheet_at, sources_at, IsSourceAnswer, writes, runs, runs_source}

-- so many files may be a command's
abbrev pub HasFiles : Command → ℕ → Type 0
HasFiles command n = (length (kinds_of command) ≤ n) × (n ≤ length (kinds_of command) + most_of command)

-- the files with their texts
abbrev pub sheets_of : List File → List (List ℕ) → List Sheet
sheets_of [] texts = []
sheets_of (file ∷ files) [] = []
sheets_of (file ∷ files) (text ∷ texts) = sheet file.name text ∷ sheets_of files texts

-- what is answered by the plan of a file
abbrev pub by_plan : Sheet → (PlanMeaning → Answer → Type 0) → Answer → Type 0
by_plan plan Then = Plans plan.name plan.text Then

abbrev pub executes : Sheet → PlanMeaning → Answer → Type 0
executes program plan = IsTextAnswer mode.Woven (woven_answer plan) program.name program.text

-- a program is run by the default plan, or by that of the file behind it
abbrev pub executes_by : Sheet → List Sheet → Answer → Type 0
executes_by program [] = executes program default_plan
executes_by program (plan ∷ rest) = by_plan plan (executes program)

abbrev pub IsAnswerOf : Command → List Sheet → Answer → Type 0
IsAnswerOf command.Weave sheets = IsSourceAnswer (sources_at sheets 0) writes
IsAnswerOf command.Exec sheets = executes_by (sheet_at sheets 0) (drop 1 sheets)
IsAnswerOf command.Run sheets =
    by_plan (sheet_at sheets 0) (λ plan. IsSourceAnswer (sources_at sheets 1) (runs plan))
IsAnswerOf command.Source sheets =
    by_plan (sheet_at sheets 0) (λ plan. IsSourceAnswer (sources_at sheets 1) (runs_source plan))

abbrev pub IsCallAnswer : Call → List (List ℕ) → Answer → Type 0
IsCallAnswer call texts = IsAnswerOf call.command (sheets_of call.files texts)

-- The answer for these words and files.
pub data IsAnswer (words : List (List ℕ)) (files : Listing) (answer : Answer) : Type 0 where
  no_command : IsUsage words → answer ≡ usage → IsAnswer words files answer
  called : (call : Call) → Means words call → OpensAll files call.files (IsCallAnswer call) answer → IsAnswer words files answer
