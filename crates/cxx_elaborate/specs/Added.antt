-- Functions that are added to a list, each with its place in the list as its number.
use Rattle.std.specs.Prelude.{◌≡◌, List, ◌++◌, length}
use Rattle.cxx_core.specs.CoreProgram.{CoreFunction}
use Rattle.cxx_core.specs.ElaboratedProgram.{numbered_from}

-- the functions so far, and those that follow with their numbers
abbrev pub followed : List CoreFunction → List CoreFunction → List CoreFunction
followed done rest = done ++ numbered_from (length done) rest

-- what was added to the functions before is what stands here in front of any that follow
pub record Adds (before after : List CoreFunction) (in_front : List CoreFunction → List CoreFunction) : Type 0 where
  pub each : (rest : List CoreFunction) → followed after rest ≡ followed before (in_front rest)
