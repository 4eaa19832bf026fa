-- What is known and what was found so far, as a program is gone through.
use Rattle.std.specs.Prelude.{ℕ, List}
use Rattle.agxx_base.specs.declared.fault.Refusal.{Refusal}
use Rattle.cxx_names.specs.declared.declarations.Declared.{Declared}
use Rattle.cxx_names.specs.declared.types.Thing.{Thing}
use Rattle.cxx_types.specs.declared.entry.Entry.{Entry}
use Rattle.cxx_types.specs.declared.limits.Counts.{Counts}

pub record State : Type 0 where
  -- the texts of names
  pub names : List (List ℕ)
  -- what the program declares
  pub declared : Declared
  -- how many things there may be
  pub most : Counts
  -- the violations so far
  pub found : List Refusal
  -- what is known of the nodes so far
  pub entries : List Entry
  -- the locals and parameters in scope
  pub scope : List (ℕ × Thing)
  -- how many locals and `return`s the function has so far
  pub locals : ℕ
  pub returns : ℕ
