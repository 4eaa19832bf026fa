-- The answer that is due: that there is one, and that the answer for words and files is one.
use Rattle.std.proofs.Common.{◌≡◌, ℕ, ◌≤◌, List, [], ◌∷◌, drop, Option, Some, None, Result, Ok, Err, refl, sym, ◌∙◌, subst, append-nil, ap, arith}
use Rattle.std.specs.Prelude.{IfOk, OnErr, take}
use Rattle.agxx_base.specs.Files.{Listing}
use Rattle.agxx_base.specs.Sink.{appended}
use Rattle.agxx_base.specs.declared.fault.Memory.{Memory}
use Rattle.agxx_base.specs.declared.kind.Mode.TheVariants as mode
use Rattle.agxx_base.specs.declared.status.Status.{Status}
use Rattle.agxx_calls.specs.declared.command.Call.{Call}
use Rattle.agxx_calls.specs.declared.command.Command.{Command}
use Rattle.agxx_calls.specs.declared.command.Command.TheVariants as command_of
use Rattle.agxx_calls.specs.declared.command.File.{File}
use Rattle.agxx_calls.specs.Commands.{IsUsage, Means, HasCall}
use Rattle.agxx_calls.proofs.Meanings.{one-call}
use Rattle.cxx_lex.proofs.Readings.{always_one}
use Rattle.flip_plan.specs.Plans.{default_plan}
use Rattle.agxx_main.specs.declared.answer.Answer.{Answer}
use Rattle.agxx_main.specs.declared.reply.Reply.{Reply}
use Rattle.agxx_main.specs.Replies.{answer_of}
use Rattle.agxx_main.specs.RunAnswers.{woven_answer}
use Rattle.agxx_main.specs.Answers.{usage, OpensAll}
use Rattle.agxx_main.specs.Weaving.{Sheet, sheet_at, sources_at, IsSourceAnswer, writes, runs, runs_source}
use Rattle.agxx_main.specs.CallAnswers.{sheets_of, executes, executes_by, IsAnswerOf, IsCallAnswer, no_command, called}
use Rattle.agxx_main.specs.Outcome as due
use Rattle.agxx_main.specs.Outcome.{OpensInTurn, IsDue, HasDue, GetsPrefix, Gets, no_memory, GivesUp, Ends}
use Rattle.agxx_main.specs.Laws.{IsAlike, same, HasOneAnswer, UsageHasAnswer, CommandHasAnswer, DueIsAnswer}
use Rattle.agxx_main.proofs.Texts.{has-text, one-text}
use Rattle.agxx_main.proofs.Sources.{writes-settled, runs-settled, source-settled, some-source, one-source}
use Rattle.agxx_main.proofs.Opens.{some-plans, one-plans, some-opens-all, one-opens-all, some-in-turn, in-turn-told}

-- ---- each command has an answer for the texts of its files, and one alone

some-exec : (program : Sheet) (plans : List Sheet) → (a : Answer) × executes_by program plans a
some-exec program [] = has-text always_one mode.Woven (woven_answer default_plan) program.name program.text
some-exec program (plan ∷ rest) =
    some-plans plan.name plan.text (executes program) (λ p. has-text always_one mode.Woven (woven_answer p) program.name program.text)

one-exec : (program : Sheet) (plans : List Sheet) (a b : Answer) → executes_by program plans a → executes_by program plans b → IsAlike a b
one-exec program [] a b = one-text mode.Woven (woven_answer default_plan) program.name program.text a b
one-exec program (plan ∷ rest) a b =
    one-plans plan.name plan.text (executes program) a b (λ p a b. one-text mode.Woven (woven_answer p) program.name program.text a b)

some-of-sheets : (c : Command) (sheets : List Sheet) → (a : Answer) × IsAnswerOf c sheets a
some-of-sheets command_of.Weave sheets = some-source always_one writes writes-settled (sources_at sheets 0)
some-of-sheets command_of.Exec sheets = some-exec (sheet_at sheets 0) (drop 1 sheets)
some-of-sheets command_of.Run sheets =
    some-plans (sheet_at sheets 0).name (sheet_at sheets 0).text (λ p. IsSourceAnswer (sources_at sheets 1) (runs p))
    (λ p. some-source always_one (runs p) (runs-settled always_one p) (sources_at sheets 1))
some-of-sheets command_of.Source sheets =
    some-plans (sheet_at sheets 0).name (sheet_at sheets 0).text (λ p. IsSourceAnswer (sources_at sheets 1) (runs_source p))
    (λ p. some-source always_one (runs_source p) (source-settled p) (sources_at sheets 1))

one-of-sheets : (c : Command) (sheets : List Sheet) (a b : Answer) → IsAnswerOf c sheets a → IsAnswerOf c sheets b → IsAlike a b
one-of-sheets command_of.Weave sheets a b = one-source writes writes-settled (sources_at sheets 0) a b
one-of-sheets command_of.Exec sheets a b = one-exec (sheet_at sheets 0) (drop 1 sheets) a b
one-of-sheets command_of.Run sheets a b =
    one-plans (sheet_at sheets 0).name (sheet_at sheets 0).text (λ p. IsSourceAnswer (sources_at sheets 1) (runs p)) a b
    (λ p a b. one-source (runs p) (runs-settled always_one p) (sources_at sheets 1) a b)
one-of-sheets command_of.Source sheets a b =
    one-plans (sheet_at sheets 0).name (sheet_at sheets 0).text (λ p. IsSourceAnswer (sources_at sheets 1) (runs_source p)) a b
    (λ p a b. one-source (runs_source p) (source-settled p) (sources_at sheets 1) a b)

some-of : (c : Command) (files : List File) (texts : List (List ℕ)) → (a : Answer) × IsAnswerOf c (sheets_of files texts) a
some-of c files texts = some-of-sheets c (sheets_of files texts)

one-of : (c : Command) (files : List File) (texts : List (List ℕ)) (a b : Answer) → IsAnswerOf c (sheets_of files texts) a → IsAnswerOf c (sheets_of files texts) b → IsAlike a b
one-of c files texts = one-of-sheets c (sheets_of files texts)

-- ---- one that is due

some-due : (listed : Option Listing) (before now : ℕ) (call : Call) → before ≤ now → (a : Answer) × OpensInTurn listed before now call.files (IsCallAnswer call) a
some-due listed before now call m = some-in-turn listed before now call.files (IsCallAnswer call) m (some-of call.command call.files)

pub some-called : (words : List (List ℕ)) (listed : Option Listing) (before now : ℕ) → before ≤ now → HasCall words → HasDue words listed before now
some-called words listed before now m h = let d = some-due listed before now h.0 m in (d.0, due.called h.0 h.1 d.1)

pub some-usage : (words : List (List ℕ)) (listed : Option Listing) (before now : ℕ) → IsUsage words → HasDue words listed before now
some-usage words listed before now u = (usage, due.no_command u refl)

pub by-usage : (words : List (List ℕ)) (listed : Option Listing) (before now : ℕ) (a : Answer) → IsUsage words → a ≡ usage → IsDue words listed before now a
by-usage words listed before now a u e = due.no_command u e

pub by-call : (words : List (List ℕ)) (listed : Option Listing) (before now : ℕ) (call : Call) (a : Answer) → Means words call → OpensInTurn listed before now call.files (IsCallAnswer call) a → IsDue words listed before now a
by-call words listed before now call a m d = due.called call m d

-- ---- the end of a call

no-bytes : (taken : Option (List ℕ)) (after : Option (List ℕ)) (bytes : List ℕ) → after ≡ taken → GetsPrefix taken after bytes
no-bytes taken after bytes e = (0, omega arith, e ∙ nothing taken)
  where
    nothing : (o : Option (List ℕ)) → o ≡ appended o (take 0 bytes)
    nothing None = refl
    nothing (Some had) = ap Some (sym (append-nil had))

gives-up : (answer : Answer) (out out' diag diag' : Option (List ℕ)) (out_failed diag_failed : Type 0) (result : Status) → GivesUp out out' diag diag' result → Gets answer out out' diag diag' out_failed diag_failed result
gives-up answer out out' diag diag' out_failed diag_failed result g = no_memory g.status (no-bytes out out' answer.out g.out_stays) (no-bytes diag diag' answer.diag g.diag_stays)

-- by an answer that was found, or some answer where memory was refused
pub ends-by : (words : List (List ℕ)) (listed : Option Listing) (before now : ℕ) (out out' diag diag' : Option (List ℕ)) (out_failed diag_failed : Type 0) (r : Result Reply Memory) (result : Status)
    → IfOk r (λ x. IsDue words listed before now (answer_of x)) → OnErr r (HasDue words listed before now) → IfOk r (λ x. Gets (answer_of x) out out' diag diag' out_failed diag_failed result) → OnErr r (GivesUp out out' diag diag' result)
    → Ends words listed before now out out' diag diag' out_failed diag_failed result
ends-by words listed before now out out' diag diag' out_failed diag_failed (Ok x) result d some g m = record { answer = answer_of x; due = d; given = g }
ends-by words listed before now out out' diag diag' out_failed diag_failed (Err x) result d some g m =
    record { answer = some.0; due = some.1; given = gives-up some.0 out out' diag diag' out_failed diag_failed result m }

-- ---- words and files have one answer

-- what is answered for a call is answered for one with the same command and files
moved-call : (listing : Listing) (c d : Command) (files others : List File) (a : Answer) → d ≡ c → others ≡ files → OpensAll listing others (λ texts. IsAnswerOf d (sheets_of others texts)) a → OpensAll listing files (λ texts. IsAnswerOf c (sheets_of files texts)) a
moved-call listing c d files others a i j x =
    subst (λ f. OpensAll listing f (λ texts. IsAnswerOf c (sheets_of f texts)) a) j (subst (λ k. OpensAll listing others (λ texts. IsAnswerOf k (sheets_of others texts)) a) i x)

pub one-answer : HasOneAnswer
one-answer words files a b (no_command u e) (no_command v f) = same (e ∙ sym f)
one-answer words files a b (no_command u e) (called call m x) = absurd (u call m)
one-answer words files a b (called call m x) (no_command u e) = absurd (u call m)
one-answer words files a b (called call m x) (called other n y) =
    let s = one-call words other call n m in
    one-opens-all files call.files (IsCallAnswer call) a b (one-of call.command call.files) x (moved-call files call.command other.command call.files other.files b s.0 s.1 y)

pub usage-answered : UsageHasAnswer
usage-answered words files u = (usage, no_command u refl)

pub command-answered : CommandHasAnswer
command-answered words files call m =
    let x = some-opens-all files call.files (IsCallAnswer call) (some-of call.command call.files) in
    (x.0, called call m x.1)

-- ---- where files are told and no fault comes, the answer that is due is theirs

pub due-is-answer : DueIsAnswer
due-is-answer words files before now a none (due.no_command u e) = no_command u e
due-is-answer words files before now a none (due.called call m d) = called call m (in-turn-told files before now call.files (IsCallAnswer call) a none d)
