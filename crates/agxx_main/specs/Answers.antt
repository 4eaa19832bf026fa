-- The whole answer of the program, for words and files that are told.
use Rattle.std.specs.Prelude.{◌≡◌, ◌≤◌, ◌<◌, ℕ, List, [], ◌∷◌, length, Option, Some, None}
use Rattle.agxx_base.specs.Files.{Listing, file_named}
use Rattle.agxx_base.specs.declared.fault.Refusal.{Refusal}
use Rattle.agxx_base.specs.declared.kind.Mode.{Mode}
use Rattle.agxx_base.specs.declared.place.Place.{Place}
use Rattle.agxx_base.specs.declared.rule.Rule.{Rule}
use Rattle.agxx_base.specs.declared.rule.Rule.TheVariants.{S1}
use Rattle.agxx_base.specs.declared.status.Status.TheVariants as status_of
use Rattle.cxx_lex.specs.Tokens.{Token, HasTokens, RefusedAt}
use Rattle.cxx_tree.specs.ProgramTree.{ProgramTree}
use Rattle.cxx_parse.specs.Numbering.{names_of}
use Rattle.cxx_parse.specs.Parsed.{IsParsed, IsReadAs, IsRefused}
use Rattle.cxx_normal.specs.Normal.{with_main, normal_among}
use Rattle.cxx_types.specs.Violations.{refusal_of}
use Rattle.flip_plan.specs.Plans.{PlanMeaning}
use Rattle.flip_plan.specs.Reading.{plan_of}
use Rattle.agxx_base.specs.Refusals.{least}
use Rattle.flip_plan.specs.Rules.{violations_of_plan}
use Rattle.agxx_main.specs.declared.answer.Answer.{Answer}
use Rattle.agxx_calls.specs.declared.command.File.{File}
use Rattle.agxx_calls.specs.Commands.{limit_of}
use Rattle.agxx_main.specs.Lines.{usage_line, unreadable_line, refusal_line}

abbrev pub usage : Answer
usage = record { status = status_of.Usage; out = []; diag = usage_line }

abbrev pub unreadable : List ℕ → Answer
unreadable file = record { status = status_of.ReadFault; out = []; diag = unreadable_line file }

abbrev pub refused : List ℕ → Refusal → Answer
refused file refusal = record { status = status_of.Refused; out = []; diag = refusal_line file refusal }

-- a rule that is violated at the beginning of the file
abbrev pub at_beginning : Rule → Refusal
at_beginning rule = record { rule = rule; place = record { file = 0; line = 1; column = 1 } }

-- ---- the text of a program

-- the names of a program of these tokens alone
abbrev pub names_in : List Token → List (List ℕ)
names_in tokens = names_of [] tokens

-- the tokens are this program, places and all
abbrev pub IsProgramIn : Mode → List Token → Place → ProgramTree → Type 0
IsProgramIn mode tokens end program = IsParsed mode (names_in tokens) tokens end program × IsReadAs mode (names_in tokens) tokens end program

-- the names of the normal form of such a program
abbrev pub normal_names : List Token → List (List ℕ)
normal_names tokens = with_main (names_in tokens)

-- What programs answer that violate no rule, by their files, names and normal forms.
abbrev pub Running : Type 0
Running = List ℕ → List (List ℕ) → ProgramTree → Answer

-- what a program in normal form answers, by the rule on names and types that it violates, if it violates one
abbrev pub by_violation : Running → List ℕ → List (List ℕ) → ProgramTree → Option Refusal → Answer
by_violation run file names q None = run file names q
by_violation run file names q (Some refusal) = refused file refusal

-- it is refused by its first violation, or run
abbrev pub normal_answer : Mode → Running → List ℕ → List (List ℕ) → ProgramTree → Answer
normal_answer mode run file names q = by_violation run file names q (refusal_of names mode q)

-- the same of a program of these tokens
abbrev pub program_answer : Mode → Running → List ℕ → List Token → ProgramTree → Answer
program_answer mode run file tokens program = normal_answer mode run file (normal_names tokens) (normal_among (normal_names tokens) program)

-- the refusal of tokens that are no program
abbrev pub IsRefusalIn : Mode → List Token → Place → Refusal → Type 0
IsRefusalIn mode tokens end refusal = IsRefused mode (names_in tokens) tokens end refusal

-- What is answered for a program's text: a refusal for its tokens or its grammar, or what the program answers.
pub data IsTextAnswer (mode : Mode) (run : Running) (file text : List ℕ) (answer : Answer) : Type 0 where
  no_tokens : (refusal : Refusal) → RefusedAt mode 0 text refusal → answer ≡ refused file refusal → IsTextAnswer mode run file text answer
  no_program : (tokens : List Token) (end : Place) (refusal : Refusal) → HasTokens mode 0 text tokens end → IsRefusalIn mode tokens end refusal
      → answer ≡ refused file refusal → IsTextAnswer mode run file text answer
  judged : (tokens : List Token) (end : Place) (program : ProgramTree) → HasTokens mode 0 text tokens end
      → IsProgramIn mode tokens end program → answer ≡ program_answer mode run file tokens program → IsTextAnswer mode run file text answer

-- ---- files

-- a file that can't be read, or is too large
abbrev pub IsClosed : List ℕ → ℕ → Option (List ℕ) → Answer → Type 0
IsClosed file limit None answer = answer ≡ unreadable file
IsClosed file limit (Some text) answer = (limit < length text) × (answer ≡ refused file (at_beginning S1))

-- what is answered for a file with this content: that it can't be opened, or what is answered then for its text
pub data Opens (file : List ℕ) (limit : ℕ) (content : Option (List ℕ)) (Then : List ℕ → Answer → Type 0) (answer : Answer) : Type 0 where
  closed : IsClosed file limit content answer → Opens file limit content Then answer
  opened : (text : List ℕ) → content ≡ Some text → length text ≤ limit → Then text answer → Opens file limit content Then answer

-- what is answered for the text of a plan: its refusal, or what is answered then for the plan
pub data Plans (file text : List ℕ) (Then : PlanMeaning → Answer → Type 0) (answer : Answer) : Type 0 where
  refused_plan : (refusal : Refusal) → least (violations_of_plan 0 text) ≡ Some refusal → answer ≡ refused file refusal → Plans file text Then answer
  accepted_plan : least (violations_of_plan 0 text) ≡ None → Then (plan_of text) answer → Plans file text Then answer

-- the files are opened in order, each with its limit: the first that can't be opened is told, or what is answered then for all texts
abbrev pub OpensAll : Listing → List File → (List (List ℕ) → Answer → Type 0) → Answer → Type 0
OpensAll listing [] Then = Then []
OpensAll listing (file ∷ files) Then =
    Opens file.name (limit_of file.kind) (file_named file.name listing) (λ text. OpensAll listing files (λ texts. Then (text ∷ texts)))
