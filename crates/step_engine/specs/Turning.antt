-- What the turn of a thread works on, whose running frame is taken off.
use Rattle.std.specs.Prelude.{ℕ}
use Rattle.step_machine.specs.Setting.{Setting}
use Rattle.step_machine.specs.World.{World}
use Rattle.step_machine.specs.Turn.{Threads}

pub record Turning : Type 0 where
  pub setting : Setting
  pub world : World
  pub threads : Threads
  -- the number of the thread
  pub thread : ℕ
