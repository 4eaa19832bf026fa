-- Runs by a list of turns.
use Rattle.std.specs.Prelude.{ℕ, suc, List, [], ◌∷◌}
use Rattle.step_machine.specs.declared.outcome.StepKind.{StepKind}
use Rattle.step_machine.specs.declared.outcome.StepKind.TheVariants as kind
use Rattle.step_machine.specs.Setting.{Setting}
use Rattle.step_machine.specs.Machine.{Machine, Next, next}
use Rattle.step_machine.specs.Start.{start}

-- how many turns were of each kind
pub record Counts : Type 0 where
  pub source : ℕ
  pub inserted : ℕ
  pub blocked : ℕ
  pub idle : ℕ

abbrev pub nothing_counted : Counts
nothing_counted = record { source = 0; inserted = 0; blocked = 0; idle = 0 }

abbrev pub counted : StepKind → Counts → Counts
counted kind.Source n = record n { source = suc n.source }
counted kind.Inserted n = record n { inserted = suc n.inserted }
counted kind.Blocked n = record n { blocked = suc n.blocked }
counted kind.Idle n = record n { idle = suc n.idle }

abbrev pub Ran : Type 0
Ran = Machine × Counts

abbrev pub turn_taken : Counts → Next → Ran
turn_taken n r = (r.0, counted r.1 n)

-- a turn of each of these threads, one after the other
abbrev pub run_on : Ran → List ℕ → Ran
run_on r [] = r
run_on r (t ∷ ts) = run_on (turn_taken r.1 (next r.0 t)) ts

abbrev pub run_from : Machine → List ℕ → Ran
run_from m turns = run_on (m, nothing_counted) turns

-- a whole run by these turns
abbrev pub run : Setting → List ℕ → Ran
run s turns = run_from (start s) turns
