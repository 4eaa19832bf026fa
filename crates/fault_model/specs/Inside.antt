-- Who is inside a part of an object: a thread, one of whose frames has the object as its `this` and is of a function of the
-- part's class or of a class derived from it. A frame that is out takes no part in it.
use Rattle.std.specs.Prelude.{ℕ, zero, suc, Bool, false, not, ◌&&◌, ◌||◌, List, [], ◌∷◌, Some}
use Rattle.agxx_base.specs.declared.ids.ClassId.{ClassId}
use Rattle.step_machine.specs.Setting.{Setting, class_of_function, is_of}
use Rattle.step_machine.specs.Frame.{Frame, is_object}
use Rattle.step_machine.specs.Turn.{Thread}
use Rattle.step_machine.specs.Total.{Total}

-- whether a frame is out, by the frames above it, the nearest first; none is so far
abbrev pub is_out : Setting → List Frame → Frame → Bool
is_out s above f = false

-- whether a frame is on an object in a function of a class or of one derived from it
abbrev pub is_frame_on : Setting → ℕ → ClassId → Frame → Bool
is_frame_on s o class f = is_object o f.this && is_of s (class_of_function s f.function) (Some class)

abbrev pub is_frame_inside : Setting → ℕ → ClassId → List Frame → Frame → Bool
is_frame_inside s o class above f = not (is_out s above f) && is_frame_on s o class f

-- whether one of these frames is, above which stand others, the nearest first
abbrev pub are_inside : Setting → ℕ → ClassId → List Frame → Thread → Bool
are_inside s o class above [] = false
are_inside s o class above (f ∷ fs) = is_frame_inside s o class above f || are_inside s o class (f ∷ above) fs

abbrev pub is_thread_inside : Setting → ℕ → ClassId → Thread → Bool
is_thread_inside s o class fs = are_inside s o class [] fs

-- whether one of so many threads is, the first ones
abbrev pub is_inside_among : Setting → ℕ → ClassId → (ℕ → Thread) → ℕ → Bool
is_inside_among s o class frames zero = false
is_inside_among s o class frames (suc n) = is_thread_inside s o class (frames n) || is_inside_among s o class frames n

-- whether somebody is inside the part of this class of an object
abbrev pub is_inside : Total → ℕ → ClassId → Bool
is_inside m o class = is_inside_among m.setting o class m.frames m.started
