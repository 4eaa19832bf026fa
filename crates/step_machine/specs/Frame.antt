-- The run of a function.
use Rattle.std.specs.Prelude.{ℕ, ◌+◌, Bool, true, false, not, ◌&&◌, nat_eq, List, [], ◌∷◌, Option, Some, None, if◌then◌else◌}
use Rattle.cxx_core.specs.CoreProgram.{CoreParam, CoreFunction}
use Rattle.cxx_names.specs.declared.types.ValueType.{ValueType}
use Rattle.step_machine.specs.declared.datum.Datum.{Datum}
use Rattle.step_machine.specs.Data.{first, rest, converted}
use Rattle.step_machine.specs.Entries.{with_entry}
use Rattle.step_machine.specs.Item as it
use Rattle.step_machine.specs.Item.{Item, Ending, function_items}
use Rattle.step_machine.specs.Setting.{Setting, is_generated_by}

pub record Frame : Type 0 where
  -- its number; the frame in which a run starts has none
  pub function : Option ℕ
  -- whether protection made its function
  pub is_generated : Bool
  pub this : Option ℕ
  -- the locals and parameters so far, by their names
  pub locals : List (ℕ × Datum)
  -- the threads that it started and has not joined, by their names
  pub threads : List (ℕ × ℕ)
  -- the last at the head
  pub values : List Datum
  -- the result
  pub kept : Option Datum
  -- the next at the head
  pub items : List Item

abbrev pub pushed : Datum → Frame → Frame
pushed v f = record f { values = v ∷ f.values }

abbrev pub popped : Frame → Frame
popped f = record f { values = rest f.values }

abbrev pub top : Frame → Datum
top f = first f.values

abbrev pub bound : ℕ → Datum → Frame → Frame
bound name v f = record f { locals = with_entry f.locals name v }

-- ---- a call's frame

-- the values that are left, and the parameters so far
abbrev pub Binding : Type 0
Binding = List Datum × List (ℕ × Datum)

abbrev pub bind_one : CoreParam → Binding → Binding
bind_one q b = (rest b.0, with_entry b.1 q.name (converted q.type (first b.0)))

-- the last parameter takes the last value
abbrev pub bind_all : List CoreParam → Binding → Binding
bind_all [] b = b
bind_all (q ∷ qs) b = bind_one q (bind_all qs b)

abbrev pub arguments : CoreFunction → Frame → Binding
arguments function f = bind_all function.params (f.values, [])

abbrev pub frame_of : Setting → ℕ → CoreFunction → Option ℕ → List (ℕ × Datum) → Ending → Frame
frame_of s number function this locals ending = record {
  function = Some number;
  is_generated = is_generated_by s (Some function);
  this = this;
  locals = locals;
  threads = [];
  values = [];
  kept = None;
  items = function_items function ending;
}

abbrev pub ending_by : Option ValueType → Ending
ending_by None = it.returns
ending_by (Some t) = it.lacks_value

-- ---- frames of an object

abbrev pub is_object : ℕ → Option ℕ → Bool
is_object o None = false
is_object o (Some p) = nat_eq p o

-- whether a frame, generated ones aside, has the object as `this`
abbrev pub is_on : ℕ → Frame → Bool
is_on o f = is_object o f.this && not f.is_generated

abbrev pub are_on : ℕ → List Frame → Bool
are_on o [] = false
are_on o (f ∷ fs) = if is_on o f then true else are_on o fs

abbrev pub any_on : ℕ → List (List Frame) → Bool
any_on o [] = false
any_on o (fs ∷ ths) = if are_on o fs then true else any_on o ths

-- how many frames count toward the depth
abbrev pub depth_with : Frame → ℕ → ℕ
depth_with f n = if f.is_generated then n else n + 1

abbrev pub depth_of : List Frame → ℕ
depth_of [] = 0
depth_of (f ∷ fs) = depth_with f (depth_of fs)
