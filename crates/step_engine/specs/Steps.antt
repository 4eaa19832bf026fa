-- What an item does in a turn.
use Rattle.std.specs.Prelude.{◌≡◌, ℕ, length, Bool, List, Option, Some, option_map, if◌then◌else◌}
use Rattle.agxx_base.specs.declared.ids.ClassId.{ClassId}
use Rattle.agxx_base.specs.declared.ids.FnId.{FnId}
use Rattle.agxx_base.specs.declared.ids.ObjectId.{ObjectId}
use Rattle.agxx_base.specs.declared.place.Place.{Place}
use Rattle.cxx_core.specs.CoreExpr.{CoreCallee}
use Rattle.cxx_core.specs.CoreProgram.{CoreFunction}
use Rattle.cxx_core.specs.ProgramView.{function_core, number_core}
use Rattle.step_machine.specs.declared.datum.Datum.{Datum}
use Rattle.step_machine.specs.Data.{first, rest, object_of}
use Rattle.step_machine.specs.Setting.{Setting}
use Rattle.step_machine.specs.Item.{Item}
use Rattle.step_machine.specs.Frame as frames
use Rattle.step_machine.specs.Frame.{Frame, Binding, arguments, popped}
use Rattle.step_machine.specs.Effects.{Act, Did, did}
use Rattle.step_machine.specs.Reads.{Reads}
use Rattle.step_machine.specs.Machine.{reads_of}
use Rattle.step_machine.specs.Act.{act}
use Rattle.step_machine.specs.ActEnter as enter
use Rattle.step_machine.specs.ActCalls as calls
use Rattle.step_machine.specs.ActObjects as objects
use Rattle.step_machine.specs.ActThreads as threads
use Rattle.step_frame.specs.Works.{ending_of, number_of}
use Rattle.step_engine.specs.declared.effect.Effect.{Effect}
use Rattle.step_engine.specs.declared.enter.Entry.{Entry}
use Rattle.step_engine.specs.Effects.{effect_of}
use Rattle.step_engine.specs.Turning.{Turning}

-- what may be read of what the threads share
abbrev pub reads : Turning → Reads
reads now = reads_of now.setting now.world now.thread now.threads

-- how many counted frames stand below the running one
abbrev pub depth_in : Turning → ℕ
depth_in now = (reads now).depth

-- what an item does that was taken off a frame
unfoldable pub acted : Turning → Item → Frame → Did
acted now i f = did f (act now.setting (reads now) now.thread i f)

-- a frame was changed, with this effect, as the machine does it
abbrev pub HasActed : Frame → Frame → Effect → Act → Type 0
HasActed old new effect act = ◌≡◌ {A = Did} (new, effect_of effect) (did old act)

-- a frame was changed, with this effect, by an item that was taken off it
abbrev pub IsStep : Turning → Item → Frame → Frame → Effect → Type 0
IsStep now i old new effect = ◌≡◌ {A = Did} (new, effect_of effect) (acted now i old)

-- ---- a function that is entered

abbrev pub core_of : Entry → CoreFunction
core_of e = function_core e.function.now

abbrev pub arguments_of : Entry → Frame → Binding
arguments_of e f = arguments (core_of e) f

-- where a pointer stands below the arguments
abbrev pub without_pointer : Binding → Binding
without_pointer b = (rest b.0, b.1)

abbrev pub frame_of : Setting → Entry → List (ℕ × Datum) → Frame
frame_of s e locals =
    frames.frame_of s e.number.0 (core_of e) (option_map number_of e.this) locals (ending_of e.ending)

-- the top value is taken off, or left
abbrev pub popped_if : Bool → Frame → Frame
popped_if pops f = if pops then popped f else f

module _ (now : Turning) where
  abbrev pub entered : Entry → Binding → Frame → Act
  entered e b f =
      enter.enter now.setting (depth_in now) e.number.0 e.at (core_of e) (option_map number_of e.this) (ending_of e.ending) b f

  -- a constructor, or the base's constructor or destructor, if there is one
  abbrev pub entered_on : Place → Option ObjectId → Option FnId → Frame → Act
  entered_on at this g f =
      enter.enter_on now.setting (depth_in now) at (option_map number_of this) (option_map number_core g) f

  -- the destructor of an object, if there is one
  abbrev pub destructed : Place → ObjectId → Option FnId → Frame → Act
  destructed at o g f = enter.destruct now.setting (depth_in now) at o.0 (option_map number_core g) f

  -- on an object, or none where the pointer is null
  abbrev pub called_on : CoreCallee → CoreFunction → Option ℕ → Binding → Frame → Act
  called_on callee function o b f =
      calls.call_at now.setting (depth_in now) (reads now).class callee.function callee.at function o b f

  -- on the object of the pointer below the arguments
  abbrev pub called_pointed : CoreCallee → CoreFunction → Binding → Frame → Act
  called_pointed callee function b f = called_on callee function (object_of (first b.0)) (without_pointer b) f

  abbrev pub called : CoreCallee → CoreFunction → Frame → Act
  called callee function f = calls.call_of now.setting (depth_in now) (reads now).class callee (Some function) f

  -- ---- objects and threads

  -- an object of a number, whose constructor is entered
  abbrev pub created : ℕ → ClassId → Entry → Frame → Act
  created made class e f =
      objects.created now.setting (depth_in now) made e.number.0 e.at class (core_of e) (arguments_of e f) f

  -- an object that no frame is on, by frame f, which goes on as g
  abbrev pub destroyed : Place → ObjectId → ClassId → Frame → Frame → Act
  destroyed at o class f g =
      objects.destruct_unused now.setting (depth_in now) (reads now).class (reads now).is_busy at o.0 class f g

  -- a thread of a number
  abbrev pub spawned : ℕ → ℕ → Entry → Frame → Act
  spawned started name e f = threads.spawn_of now.setting started name e.number.0 (Some (core_of e)) f
