-- The frame that runs in a thread, as callers are told of it.
use Rattle.std.specs.Prelude.{ℕ, [], ◌∷◌, length, Option, Some, None, option_map}
use Rattle.step_machine.specs.Setting.{Setting, class_of_function}
use Rattle.step_machine.specs.Frame.{Frame}
use Rattle.step_machine.specs.Turn.{Thread}
use Rattle.step_machine.specs.Machine.{as_object}
use Rattle.fault_watch.specs.declared.inside.Top.{Top}

-- of a frame in a thread with so many
abbrev pub top_frame : Setting → Frame → ℕ → Top
top_frame s f depth = record {
  object = option_map as_object f.this;
  class = class_of_function s f.function;
  depth = depth;
}

-- of the first frame, if there is one
abbrev pub top_of : Setting → Thread → Option Top
top_of s [] = None
top_of s (f ∷ fs) = Some (top_frame s f (length (f ∷ fs)))
