-- Runs by turns that a rule names, each taken while the run goes on.
use Rattle.std.specs.Prelude.{ℕ, zero, suc, ◌+◌, Bool, true, false, if◌then◌else◌}
use Rattle.step_machine.specs.declared.outcome.State.{State}
use Rattle.step_machine.specs.declared.outcome.State.TheVariants as state
use Rattle.step_machine.specs.Machine.{Machine, next}
use Rattle.step_machine.specs.Runs as runs
use Rattle.step_machine.specs.Runs.{Ran, turn_taken, nothing_counted}
use Rattle.step_engine.specs.declared.runs.Counts.{Counts}

abbrev pub is_running : State → Bool
is_running state.Running = true
is_running _ = false

-- a turn of a thread, while the run goes on
abbrev pub taken : ℕ → Ran → Ran
taken t r = if is_running r.0.state then turn_taken r.1 (next r.0 t) else r

-- what so many turns come to, where turn i is the thread's that the rule names
abbrev pub after_turns : (ℕ → ℕ) → Ran → ℕ → Ran
after_turns turn r zero = r
after_turns turn r (suc n) = taken (turn n) (after_turns turn r n)

-- a run from a machine on
abbrev pub run_of : (ℕ → ℕ) → ℕ → Machine → Ran
run_of turn limit m = after_turns turn (m, nothing_counted) limit

abbrev pub counts_of : Counts → runs.Counts
counts_of c = record { source = c.source; inserted = c.inserted; blocked = c.blocked; idle = c.idle }

-- how many turns were taken
abbrev pub turns_in : Counts → ℕ
turns_in c = c.source + c.inserted + c.blocked + c.idle
