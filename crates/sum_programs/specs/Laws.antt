-- What programs that print sums come to.
use Rattle.std.specs.Prelude.{◌≡◌, ◌≤◌, ◌<◌, ◌-◌, ◌*◌, ℕ, zero, suc, List, [], ◌∷◌, length, pos, replicate}
use Rattle.std.specs.List.{All}
use Rattle.cxx_tree.specs.ProgramTree.{ProgramTree}
use Rattle.cxx_normal.specs.Normal.{normal_among}
use Rattle.cxx_core.specs.ElaboratedProgram.{core_program}
use Rattle.step_machine.specs.declared.outcome.State.TheVariants as state
use Rattle.step_machine.specs.ActMembers.{output_limit}
use Rattle.step_machine.specs.Setting.{Setting}
use Rattle.step_machine.specs.Runs.{Ran, run}
use Rattle.sum_programs.specs.SumPrograms.{SumProgram, tree_of, printed, PrintFits, steps_of}

-- no sum overflows, and what is printed is no more than a run may print
pub record IsInLimits (d : SumProgram) : Type 0 where
  pub sums : All PrintFits d.prints
  pub output : length (printed d) ≤ output_limit

-- `main` has returned 0, all was printed, and so many turns did nothing
pub record HasPrinted (d : SumProgram) (idle : ℕ) (r : Ran) : Type 0 where
  pub state : r.0.state ≡ state.Ended (pos 0)
  pub output : r.0.world.output ≡ printed d
  pub counts : r.1 ≡ record { source = steps_of d; inserted = 0; blocked = 0; idle = idle }

-- how many of these turns are thread 0's
abbrev pub turns_of_main : List ℕ → ℕ
turns_of_main [] = 0
turns_of_main (zero ∷ turns) = suc (turns_of_main turns)
turns_of_main (suc t ∷ turns) = turns_of_main turns

-- so many times a turn of each of threads 0 to 7
abbrev pub rounds : ℕ → List ℕ
rounds zero = []
rounds (suc n) = 0 ∷ 1 ∷ 2 ∷ 3 ∷ 4 ∷ 5 ∷ 6 ∷ 7 ∷ rounds n

-- a machine with this setting prints what the program prints, and ends with 0
pub record PrintsAndEnds (d : SumProgram) (s : Setting) : Type 0 where
  -- thread 0 alone takes turns, just as many as are needed
  pub alone : HasPrinted d 0 (run s (replicate (steps_of d) 0))
  -- in fewer turns of thread 0 the run isn't over, whichever others there are
  pub before : (turns : List ℕ) → turns_of_main turns < steps_of d → (run s turns).0.state ≡ state.Running
  -- with no fewer it is over
  pub by_turns : (turns : List ℕ) → steps_of d ≤ turns_of_main turns → HasPrinted d (length turns - steps_of d) (run s turns)
  -- a round for each step is enough, as 125,000 are in 1,000,000 turns
  pub by_rounds : (n : ℕ) → steps_of d ≤ n → HasPrinted d (8 * n - steps_of d) (run s (rounds n))

-- for a program and these names
abbrev pub setting_of : List (List ℕ) → ProgramTree → Setting
setting_of names q = record { names = names; program = core_program names q }

pub record SumsArePrinted : Type 0 where
  pub as_written : (names : List (List ℕ)) (d : SumProgram) → IsInLimits d → PrintsAndEnds d (setting_of names (tree_of names d))
  pub in_normal_form : (names : List (List ℕ)) (d : SumProgram) → IsInLimits d
      → PrintsAndEnds d (setting_of names (normal_among names (tree_of names d)))
