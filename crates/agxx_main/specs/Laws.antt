-- That the answer for words and files is a definition.
use Rattle.std.specs.Prelude.{◌≡◌, ◌⊎◌, ℕ, List, Some}
use Rattle.agxx_base.specs.Causes.{Rose}
use Rattle.agxx_base.specs.declared.fault.Refusal.{Refusal}
use Rattle.agxx_base.specs.declared.rule.Rule.{Rule}
use Rattle.agxx_base.specs.declared.rule.Rule.TheVariants.{G1, G2}
use Rattle.agxx_base.specs.Files.{Listing}
use Rattle.agxx_main.specs.declared.answer.Answer.{Answer}
use Rattle.agxx_calls.specs.declared.command.Call.{Call}
use Rattle.agxx_calls.specs.Commands.{Means, IsUsage}
use Rattle.agxx_main.specs.Answers.{refused}
use Rattle.agxx_main.specs.CallAnswers.{IsAnswer}
use Rattle.agxx_main.specs.Outcome.{IsDue}

-- the rules of the grammar of programs
abbrev pub IsGrammarRule : Rule → Type 0
IsGrammarRule rule = (rule ≡ G1) ⊎ (rule ≡ G2)

-- Two answers are the same, or both refuse one file by its grammar, of which at least one tells that it is too deep: whether
-- that is told of a file that is no program within the limits, and where, isn't determined yet.
pub data IsAlike (a b : Answer) : Type 0 where
  same : a ≡ b → IsAlike a b
  deep : (file : List ℕ) (r s : Refusal) → a ≡ refused file r → b ≡ refused file s → IsGrammarRule r.rule → IsGrammarRule s.rule → (r.rule ≡ G2) ⊎ (s.rule ≡ G2) → IsAlike a b

abbrev pub HasOneAnswer : Type 0
HasOneAnswer = (words : List (List ℕ)) (files : Listing) (a b : Answer) → IsAnswer words files a → IsAnswer words files b → IsAlike a b

abbrev pub UsageHasAnswer : Type 0
UsageHasAnswer = (words : List (List ℕ)) (files : Listing) → IsUsage words → (a : Answer) × IsAnswer words files a

-- each command has one
abbrev pub CommandHasAnswer : Type 0
CommandHasAnswer = (words : List (List ℕ)) (files : Listing) (call : Call) → Means words call → (a : Answer) × IsAnswer words files a

-- what `agxx` promises, where files are told and no read fails: the answer for these files
abbrev pub DueIsAnswer : Type 0
DueIsAnswer = (words : List (List ℕ)) (files : Listing) (before now : ℕ) (a : Answer) → (Rose before now → ⊥) → IsDue words (Some files) before now a → IsAnswer words files a
