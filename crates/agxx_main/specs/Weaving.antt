-- What is answered for a program with aspect files: the texts are read, the program and its guards are judged, and then
-- it is woven.
use Rattle.std.specs.Prelude.{◌≡◌, ◌≤◌, ◌<◌, ℕ, zero, suc, List, [], ◌∷◌, ◌++◌, flat_map, drop, length, Option, Some, None, slice_get, codes}
use Rattle.agxx_base.specs.Sizes.{largest_text}
use Rattle.agxx_base.specs.declared.fault.Refusal.{Refusal}
use Rattle.agxx_base.specs.declared.kind.Mode.TheVariants as mode
use Rattle.agxx_base.specs.declared.place.Place.{Place}
use Rattle.agxx_base.specs.declared.rule.Rule.TheVariants.{U1, W1}
use Rattle.agxx_base.specs.declared.status.Status.TheVariants as status_of
use Rattle.cxx_lex.specs.Tokens.{Token, HasTokens, RefusedAt}
use Rattle.cxx_tree.specs.ProgramTree.{ProgramTree}
use Rattle.cxx_normal.specs.Normal.{with_main, normal_among}
use Rattle.cxx_normal.specs.Numbers.{numbered_program}
use Rattle.cxx_types.specs.Violations.{refusal_of}
use Rattle.cxx_print.specs.Programs.{text_of}
use Rattle.flip_plan.specs.Plans.{PlanMeaning}
use Rattle.guards.specs.declared.guard.Guard.{Guard}
use Rattle.ah_parse.specs.declared.aspect.GuardAspect.{GuardAspect}
use Rattle.ah_parse.specs.GuardFiles.{IsGuardFile, names_in, taken_after, guards_of}
use Rattle.guard_rules.specs.Violations.{refusal_of_guards}
use Rattle.protect.specs.GeneratedNames.{with_generated}
use Rattle.protect.specs.Protected.{protected}
use Rattle.agxx_main.specs.declared.answer.Answer.{Answer}
use Rattle.agxx_main.specs.Answers.{refused, at_beginning, names_in as names_of_tokens, IsProgramIn, IsRefusalIn, IsTextAnswer}
use Rattle.agxx_main.specs.RunAnswers.{woven_answer, source_answer}

-- a file that was read
pub record Sheet : Type 0 where
  pub name : List ℕ
  pub text : List ℕ

-- a program's file, and its aspect files in order; the program's has the number 0, and theirs follow
pub record Sources : Type 0 where
  pub program : Sheet
  pub aspects : List Sheet

abbrev pub name_by : List ℕ → Option Sheet → List ℕ
name_by other None = other
name_by other (Some sheet) = sheet.name

-- the name of the file of this number, or the program's where there is none
abbrev pub file_of : Sources → ℕ → List ℕ
file_of s zero = s.program.name
file_of s (suc n) = name_by s.program.name (slice_get s.aspects n)

-- a refusal of the program's file, or of the file that it tells
abbrev pub refused_program : Sources → Refusal → Answer
refused_program s refusal = refused s.program.name refusal

abbrev pub refused_source : Sources → Refusal → Answer
refused_source s refusal = refused (file_of s refusal.place.file) refusal

-- ---- aspect files

-- A file is no guard file, where it has this number and these names are taken, or it has these guards.
pub data Guarded (number : ℕ) (taken : List (List ℕ)) (sheet : Sheet) (Then : List GuardAspect → Answer → Type 0) (answer : Answer) : Type 0 where
  unguarded : ((aspects : List GuardAspect) → IsGuardFile number taken sheet.text aspects → ⊥) → answer ≡ refused sheet.name (at_beginning U1) → Guarded number taken sheet Then answer
  guarded : (aspects : List GuardAspect) → IsGuardFile number taken sheet.text aspects → Then aspects answer → Guarded number taken sheet Then answer

-- the aspects of several files
abbrev pub joined : List (List GuardAspect) → List GuardAspect
joined files = flat_map (λ aspects. aspects) files

-- all files, from this number on: the first that is no guard file is told, or what is answered then for all their aspects
abbrev pub GuardsAll : ℕ → List (List ℕ) → List Sheet → (List GuardAspect → Answer → Type 0) → Answer → Type 0
GuardsAll number taken [] Then = Then []
GuardsAll number taken (sheet ∷ sheets) Then =
    Guarded number taken sheet (λ aspects. GuardsAll (suc number) (taken_after taken aspects) sheets (λ rest. Then (aspects ++ rest)))

-- ---- the woven text

abbrev pub woven_text : List (List ℕ) → List Guard → ProgramTree → List ℕ
woven_text names guards q = text_of (with_generated names guards q) (protected (with_generated names guards q) guards q)

-- What becomes of a program in normal form and of its woven text, with the names of both.
abbrev pub Ending : Type 1
Ending = Sources → List (List ℕ) → ProgramTree → List ℕ → Answer → Type 0

abbrev pub written : List ℕ → Answer
written text = record { status = status_of.Done; out = text; diag = [] }

-- the text is written,
abbrev pub writes : Ending
writes s names q text answer = answer ≡ written text

-- what a woven text is called that is read back
abbrev pub woven_name : List ℕ
woven_name = codes "woven"

-- or it is read back and run, as any woven text is,
abbrev pub runs : PlanMeaning → Ending
runs plan s names q text = IsTextAnswer mode.Woven (woven_answer plan) woven_name text

-- or the program itself is run by the plan's turns
abbrev pub runs_source : PlanMeaning → Ending
runs_source plan s names q text answer = answer ≡ source_answer plan s.program.name names q

-- a text that is too large, or what is answered then
pub data Sized (s : Sources) (text : List ℕ) (Then : Answer → Type 0) (answer : Answer) : Type 0 where
  too_large : largest_text < length text → answer ≡ refused_program s (at_beginning W1) → Sized s text Then answer
  fits : length text ≤ largest_text → Then answer → Sized s text Then answer

abbrev pub IsWeavingAnswer : Sources → Ending → List (List ℕ) → List Guard → ProgramTree → Answer → Type 0
IsWeavingAnswer s ending names guards q =
    Sized s (woven_text names guards q) (ending s (with_generated names guards q) q (woven_text names guards q))

-- ---- the program

abbrev pub by_guards : Sources → Ending → List (List ℕ) → List Guard → ProgramTree → Option Refusal → Answer → Type 0
by_guards s ending names guards q None answer = IsWeavingAnswer s ending names guards q answer
by_guards s ending names guards q (Some refusal) answer = answer ≡ refused_source s refusal

-- a program in normal form that violates no rule on names and types is refused by its first violation of a rule on
-- guards, or woven
abbrev pub IsGuardsAnswer : Sources → Ending → List (List ℕ) → List Guard → ProgramTree → Answer → Type 0
IsGuardsAnswer s ending names guards q = by_guards s ending names guards q (refusal_of_guards names guards q)

abbrev pub by_names : Sources → Ending → List (List ℕ) → List Guard → ProgramTree → Option Refusal → Answer → Type 0
by_names s ending names guards q None answer = IsGuardsAnswer s ending names guards q answer
by_names s ending names guards q (Some refusal) answer = answer ≡ refused_program s refusal

-- a fact for a program whose nodes are numbered in text order
abbrev pub WhereNumbered : ProgramTree → (ProgramTree → Type 0) → Type 0
WhereNumbered q Fact = (raw : ProgramTree) → q ≡ numbered_program raw → Fact q

-- the same of any program in normal form
abbrev pub IsNormalAnswer : Sources → Ending → List (List ℕ) → List Guard → ProgramTree → Answer → Type 0
IsNormalAnswer s ending names guards q = by_names s ending names guards q (refusal_of names mode.Source q)

-- and of a program of names that lack `main`, with these aspects
abbrev pub IsProgramAnswer : Sources → Ending → List (List ℕ) → List GuardAspect → ProgramTree → Answer → Type 0
IsProgramAnswer s ending names aspects program =
    IsNormalAnswer s ending (with_main names) (guards_of (with_main names) aspects) (normal_among (with_main names) program)

pub data IsGuardedAnswer (s : Sources) (ending : Ending) (tokens : List Token) (end : Place) (aspects : List GuardAspect) (answer : Answer) : Type 0 where
  no_program : (refusal : Refusal) → IsRefusalIn mode.Source tokens end refusal → answer ≡ refused_program s refusal → IsGuardedAnswer s ending tokens end aspects answer
  program : (q : ProgramTree) → IsProgramIn mode.Source tokens end q → IsProgramAnswer s ending (names_of_tokens tokens) aspects q answer → IsGuardedAnswer s ending tokens end aspects answer

-- What is answered for a program with aspect files.
pub data IsSourceAnswer (s : Sources) (ending : Ending) (answer : Answer) : Type 0 where
  no_tokens : (refusal : Refusal) → RefusedAt mode.Source 0 s.program.text refusal → answer ≡ refused_program s refusal → IsSourceAnswer s ending answer
  tokens : (ts : List Token) (end : Place) → HasTokens mode.Source 0 s.program.text ts end
      → GuardsAll 1 (names_in ts) s.aspects (IsGuardedAnswer s ending ts end) answer → IsSourceAnswer s ending answer

-- ---- files by their order

abbrev pub sheet : List ℕ → List ℕ → Sheet
sheet name text = record { name = name; text = text }

abbrev pub nothing : Sheet
nothing = record { name = []; text = [] }

abbrev pub sheet_by : Option Sheet → Sheet
sheet_by None = nothing
sheet_by (Some it) = it

abbrev pub sheet_at : List Sheet → ℕ → Sheet
sheet_at sheets i = sheet_by (slice_get sheets i)

-- the program is the sheet of this number, and the aspect files are behind it
abbrev pub sources_at : List Sheet → ℕ → Sources
sources_at sheets i = record { program = sheet_at sheets i; aspects = drop (suc i) sheets }
