-- How a frame is entered, and the items that only enter one.
use Rattle.std.specs.Prelude.{ℕ, ◌||◌, nat_lt, Bool, Option, Some, None, if◌then◌else◌}
pub use Rattle.agxx_base.specs.Sizes.{depth_limit}
use Rattle.agxx_base.specs.declared.place.Place.{Place}
use Rattle.cxx_core.specs.CoreProgram.{CoreFunction}
use Rattle.step_machine.specs.declared.outcome.Stop.TheVariants as stop
use Rattle.step_machine.specs.Setting.{Setting, function_at, is_generated}
use Rattle.step_machine.specs.Item as it
use Rattle.step_machine.specs.Item.{Ending}
use Rattle.step_machine.specs.Frame.{Frame, Binding, arguments, frame_of, ending_by, depth_with}
use Rattle.step_machine.specs.Effects as on
use Rattle.step_machine.specs.Effects.{Deed, Act, goes, stops, stays}

abbrev pub after_arguments : Binding → Frame → Frame
after_arguments b f = record f { values = b.0 }

-- with how many counted frames stand below the running one
module _ (s : Setting) (depth : ℕ) where
  -- whether a frame of a function has room on top of the running one
  abbrev pub has_room : ℕ → Frame → Bool
  has_room g f = is_generated s (Some g) || nat_lt (depth_with f depth) depth_limit

  -- where a frame of a function has room it is entered
  abbrev pub entering : ℕ → Place → Frame → Deed → Act
  entering g at f deed = if has_room g f then goes f deed else stops stop.Depth at

  -- a function on an object, if on any, whose arguments are bound
  abbrev pub enter : ℕ → Place → CoreFunction → Option ℕ → Ending → Binding → Frame → Act
  enter g at function this ending b f =
      entering g at (after_arguments b f) (on.enter (frame_of s g function this b.1 ending))

  -- ---- the frame of `main`

  abbrev pub run_of : ℕ → Option CoreFunction → Frame → Act
  run_of g None f = stays f
  run_of g (Some function) f = enter g function.name.at function None (ending_by function.result) (arguments function f) f

  abbrev pub run_by : Option ℕ → Frame → Act
  run_by None f = stays f
  run_by (Some g) f = run_of g (function_at s g) f

  abbrev pub run : Frame → Act
  run f = run_by s.program.main f

  -- ---- constructors and destructors on an object

  abbrev pub enter_on_of : ℕ → Place → Option ℕ → Option CoreFunction → Frame → Act
  enter_on_of g at o None f = stays f
  enter_on_of g at o (Some function) f = enter g at function o it.returns (arguments function f) f

  -- with its number; where there is none nothing is done
  abbrev pub enter_on : Place → Option ℕ → Option ℕ → Frame → Act
  enter_on at o None f = stays f
  enter_on at o (Some g) f = enter_on_of g at o (function_at s g) f

  -- the base's constructor, and the base's destructor, on the same object
  abbrev pub up : Place → ℕ → Frame → Act
  up at g f = enter_on at f.this (Some g) f

  abbrev pub down : Place → ℕ → Frame → Act
  down at g f = enter_on at f.this (Some g) f

  abbrev pub destruct_of : ℕ → Place → ℕ → Option CoreFunction → Frame → Act
  destruct_of g at o None f = goes f (on.change (on.kill o))
  destruct_of g at o (Some function) f = enter g at function (Some o) it.destroys (arguments function f) f

  -- with the number of the destructor; where there is none the object is destroyed at once
  abbrev pub destruct : Place → ℕ → Option ℕ → Frame → Act
  destruct at o None f = goes f (on.change (on.kill o))
  destruct at o (Some g) f = destruct_of g at o (function_at s g) f
