-- The world before anything was done, and after what a start or a print does to it.
use Rattle.std.specs.Prelude.{ℕ, List, [], ◌∷◌, ◌++◌}
use Rattle.agxx_base.specs.declared.ids.ClassId.{ClassId}
use Rattle.agxx_base.specs.declared.ids.NameId.{NameId}
use Rattle.step_machine.specs.declared.datum.Datum.{Datum}
use Rattle.step_machine.specs.World.{World, new_object}

abbrev pub empty_world : World
empty_world = record { objects = []; variables = []; holders = []; output = [] }

-- a global variable more
abbrev pub declared : NameId → Datum → World → World
declared name value world = record world { variables = world.variables ++ (name.0, value) ∷ [] }

-- an object more
abbrev pub created : ClassId → ℕ → World → World
created class words world = record world { objects = world.objects ++ new_object class words ∷ [] }

-- text is printed
abbrev pub printed : List ℕ → World → World
printed text world = record world { output = world.output ++ text }
