-- A machine before its first step. Global objects are there, all zero, and the start frame constructs them in order of
-- declaration, runs `main` and destroys them in reverse order.
use Rattle.std.specs.Prelude.{ℕ, suc, false, List, [], ◌∷◌, Some, None}
use Rattle.cxx_names.specs.Tables.{with_name}
use Rattle.cxx_core.specs.CoreProgram as cp
use Rattle.cxx_core.specs.CoreProgram.{CoreGlobal}
use Rattle.step_machine.specs.declared.datum.Datum.{Datum}
use Rattle.step_machine.specs.declared.datum.Datum.TheVariants as datum
use Rattle.step_machine.specs.declared.outcome.State.TheVariants as state
use Rattle.step_machine.specs.Setting.{Setting, word_count}
use Rattle.step_machine.specs.Item as it
use Rattle.step_machine.specs.Item.{Item}
use Rattle.step_machine.specs.Frame.{Frame}
use Rattle.step_machine.specs.World.{Object, World, new_object}
use Rattle.step_machine.specs.Machine.{Machine}

-- ---- the items of the start, the first object having this number

abbrev pub makes_on : ℕ → List CoreGlobal → List Item → List Item
makes_on o [] is = is
makes_on o (cp.object at name class arguments ∷ gs) is = it.make at o class arguments ∷ makes_on (suc o) gs is
makes_on o (_ ∷ gs) is = makes_on o gs is

-- in reverse order
abbrev pub unmakes_on : ℕ → List CoreGlobal → List Item → List Item
unmakes_on o [] is = is
unmakes_on o (cp.object at name class arguments ∷ gs) is = unmakes_on (suc o) gs (it.unmake at o class ∷ is)
unmakes_on o (_ ∷ gs) is = unmakes_on o gs is

abbrev pub start_items : List CoreGlobal → List Item
start_items globals = makes_on 0 globals (it.run ∷ unmakes_on 0 globals (it.finish ∷ []))

abbrev pub start_frame : List CoreGlobal → Frame
start_frame globals = record {
  function = None;
  is_generated = false;
  this = None;
  locals = [];
  threads = [];
  values = [];
  kept = None;
  items = start_items globals;
}

-- ---- what is there at the start

abbrev pub objects_of : Setting → List CoreGlobal → List Object
objects_of s [] = []
objects_of s (cp.object at name class arguments ∷ gs) = new_object class (word_count s (Some class)) ∷ objects_of s gs
objects_of s (_ ∷ gs) = objects_of s gs

-- of several of one name the first counts
abbrev pub variables_from : List (ℕ × Datum) → List CoreGlobal → List (ℕ × Datum)
variables_from vs [] = vs
variables_from vs (cp.number name v ∷ gs) = variables_from (with_name vs name (datum.Number v)) gs
variables_from vs (cp.pointer name class ∷ gs) = variables_from (with_name vs name datum.Null) gs
variables_from vs (_ ∷ gs) = variables_from vs gs

abbrev pub start_world : Setting → World
start_world s = record {
  objects = objects_of s s.program.globals;
  variables = variables_from [] s.program.globals;
  holders = [];
  output = [];
}

abbrev pub start : Setting → Machine
start s = record {
  setting = s;
  threads = (start_frame s.program.globals ∷ []) ∷ [];
  world = start_world s;
  state = state.Running;
}
