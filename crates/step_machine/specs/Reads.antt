-- What a step may read of what the threads share.
use Rattle.std.specs.Prelude.{ℕ, Bool, Option}
use Rattle.agxx_base.specs.declared.ids.ClassId.{ClassId}
use Rattle.step_machine.specs.declared.datum.Datum.{Datum}
use Rattle.step_machine.specs.Effects.{Lock}

pub record Reads : Type 0 where
  -- the bits of a word of a live object
  pub word : ℕ → ℕ → Option ℕ
  -- the class of a live object
  pub class : ℕ → Option ClassId
  -- the value of a global
  pub variable : ℕ → Datum
  -- the thread that holds a mutex
  pub holder : Lock → Option ℕ
  -- how many objects, and how many threads, were made
  pub made : ℕ
  pub started : ℕ
  pub has_ended : ℕ → Bool
  -- whether a frame other than the running one has the object as its `this`, generated frames aside
  pub is_busy : ℕ → Bool
  -- how many frames below the running one count toward the depth
  pub depth : ℕ
  -- how many bytes were printed
  pub printed : ℕ
