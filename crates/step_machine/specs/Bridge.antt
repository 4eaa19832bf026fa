-- A run's state as lists and as functions go the same way.
use Rattle.std.specs.Prelude.{◌≡◌, ℕ}
use Rattle.step_machine.specs.Effects.{Turn}
use Rattle.step_machine.specs.Machine.{Machine, reads_of, after, next}
use Rattle.step_machine.specs.Total.{reading, reads, after_of, next_of}
use Rattle.step_machine.specs.Flips.{flipped, flipped_of}

pub record ListsAndFunctionsAgree : Type 0 where
  -- what thread t reads, whose running frame is off
  pub of_reads : (m : Machine) (t : ℕ) → reads (reading m) t ≡ reads_of m.setting m.world t m.threads
  pub of_after : (m : Machine) (t : ℕ) (r : Turn) → reading (after t r m) ≡ after_of t r (reading m)
  pub of_next : (m : Machine) (t : ℕ) → (reading (next m t).0, (next m t).1) ≡ next_of (reading m) t
  -- a flip
  pub of_flip : (m : Machine) (o w bit : ℕ) → (reading (flipped o w bit m).0, (flipped o w bit m).1) ≡ flipped_of o w bit (reading m)
