-- What a run finds at its start, global by global.
use Rattle.std.specs.Prelude.{ℕ, suc, List, [], ◌∷◌, ◌++◌, Some, is_some, if◌then◌else◌}
use Rattle.cxx_core.specs.CoreProgram as cp
use Rattle.cxx_core.specs.CoreProgram.{CoreGlobal}
use Rattle.step_machine.specs.declared.datum.Datum.{Datum}
use Rattle.step_machine.specs.declared.datum.Datum.TheVariants as datum
use Rattle.step_machine.specs.Entries.{entry}
use Rattle.step_machine.specs.Setting.{Setting, word_count}
use Rattle.step_machine.specs.World.{World}
use Rattle.step_world.specs.Worlds.{created}

-- how many global objects there are
abbrev pub object_count : List CoreGlobal → ℕ
object_count [] = 0
object_count (cp.object at name class arguments ∷ gs) = suc (object_count gs)
object_count (_ ∷ gs) = object_count gs

-- of several variables of one name the first counts
abbrev pub with_variable : ℕ → Datum → World → World
with_variable name v world =
    if is_some (entry world.variables name) then world else record world { variables = world.variables ++ (name, v) ∷ [] }

abbrev pub with_global : Setting → CoreGlobal → World → World
with_global s (cp.number name v) world = with_variable name (datum.Number v) world
with_global s (cp.pointer name class) world = with_variable name datum.Null world
with_global s (cp.object at name class arguments) world = created class (word_count s (Some class)) world
with_global s _ world = world

abbrev pub with_globals : Setting → List CoreGlobal → World → World
with_globals s [] world = world
with_globals s (g ∷ gs) world = with_globals s gs (with_global s g world)
