-- Which frames are engaged in a part of their object: from the end of their call of `__gop_enter_C` to the Call of their
-- `__gop_leave_C`. What a frame has still to do tells it: the first of its items that enters, leaves or exits is one that
-- leaves, and it isn't in its call that enters. Generated code enters as a body begins and leaves before each exit.
use Rattle.std.specs.Prelude.{ℕ, zero, suc, Bool, true, false, not, ◌&&◌, ◌||◌, List, [], ◌∷◌, Option, Some, None, codes, if◌then◌else◌}
use Rattle.agxx_base.specs.declared.ids.ClassId.{ClassId}
use Rattle.cxx_core.specs.CoreExpr as c
use Rattle.cxx_core.specs.CoreExpr.{CoreExpr, CoreCallee, CoreObject}
use Rattle.cxx_core.specs.CoreStmt as cs
use Rattle.cxx_core.specs.CoreStmt.{CoreStmt}
use Rattle.cxx_core.specs.CoreProgram.{CoreClass, CoreFunction}
use Rattle.step_machine.specs.Setting.{Setting, class_at, function_at}
use Rattle.step_machine.specs.Item as it
use Rattle.step_machine.specs.Item.{Item}
use Rattle.step_machine.specs.Frame.{Frame, is_object}
use Rattle.step_machine.specs.Turn.{Thread}
use Rattle.step_machine.specs.Total.{Total}
use Rattle.fault_model.specs.Parts.{is_named_after}
use Rattle.fault_model.specs.Inside.{is_out}

-- ---- the call that an item is of

abbrev pub callee_of_expr : CoreExpr → Option CoreCallee
callee_of_expr (c.call callee es) = Some callee
callee_of_expr _ = None

abbrev pub callee_of_stmt : CoreStmt → Option CoreCallee
callee_of_stmt (cs.run e) = callee_of_expr e
callee_of_stmt _ = None

abbrev pub callee_of : Item → Option CoreCallee
callee_of (it.stmt x) = callee_of_stmt x
callee_of (it.expr e) = callee_of_expr e
callee_of (it.call callee) = Some callee
callee_of _ = None

-- whether a call is on the frame's own object
abbrev pub is_own : Option CoreObject → Bool
is_own (Some c.own) = true
is_own (Some c.by_this) = true
is_own _ = false

abbrev pub calls_by : Setting → List ℕ → CoreClass → Option CoreCallee → Bool
calls_by s beginning class None = false
calls_by s beginning class (Some callee) = is_own callee.object && is_named_after s beginning class callee.name

-- ---- what an item is to a part

pub data Passage : Type 0 where
  enters : Passage
  leaves : Passage
  -- the frame is left
  exits : Passage
  passes : Passage

abbrev pub is_return : CoreStmt → Bool
is_return (cs.return at) = true
is_return (cs.return_value at t e) = true
is_return _ = false

abbrev pub is_exit : Item → Bool
is_exit (it.stmt x) = is_return x
is_exit (it.leave at) = true
is_exit (it.end at ending) = true
is_exit _ = false

abbrev pub passage : Setting → CoreClass → Item → Passage
passage s class i =
    if calls_by s (codes "__gop_enter_") class (callee_of i) then enters
    else (if calls_by s (codes "__gop_leave_") class (callee_of i) then leaves else (if is_exit i then exits else passes))

abbrev pub leaves_by : Passage → Bool → Bool
leaves_by enters later = false
leaves_by leaves later = true
leaves_by exits later = false
leaves_by passes later = later

-- whether it leaves next, before it enters or exits
abbrev pub leaves_next : Setting → CoreClass → List Item → Bool
leaves_next s class [] = false
leaves_next s class (i ∷ is) = leaves_by (passage s class i) (leaves_next s class is)

-- ---- frames

abbrev pub is_function_named : Setting → List ℕ → CoreClass → Option CoreFunction → Bool
is_function_named s beginning class None = false
is_function_named s beginning class (Some f) = is_named_after s beginning class f.name.item.0

abbrev pub is_of_function : Setting → List ℕ → CoreClass → Option ℕ → Bool
is_of_function s beginning class None = false
is_of_function s beginning class (Some f) = is_function_named s beginning class (function_at s f)

-- whether the nearest of the frames above is a call on the object that enters
abbrev pub is_entering : Setting → ℕ → CoreClass → List Frame → Bool
is_entering s o class [] = false
is_entering s o class (g ∷ gs) = is_object o g.this && is_of_function s (codes "__gop_enter_") class g.function

abbrev pub is_engaged_by : Setting → ℕ → Option CoreClass → List Frame → Frame → Bool
is_engaged_by s o None above f = false
is_engaged_by s o (Some class) above f =
    is_object o f.this && (not (is_entering s o class above) && leaves_next s class f.items)

abbrev pub is_frame_engaged : Setting → ℕ → ClassId → List Frame → Frame → Bool
is_frame_engaged s o class above f = not (is_out s above f) && is_engaged_by s o (class_at s class) above f

-- whether one of these frames is, above which stand others, the nearest first
abbrev pub are_engaged : Setting → ℕ → ClassId → List Frame → Thread → Bool
are_engaged s o class above [] = false
are_engaged s o class above (f ∷ fs) = is_frame_engaged s o class above f || are_engaged s o class (f ∷ above) fs

abbrev pub is_engaged_among : Setting → ℕ → ClassId → (ℕ → Thread) → ℕ → Bool
is_engaged_among s o class frames zero = false
is_engaged_among s o class frames (suc n) = are_engaged s o class [] (frames n) || is_engaged_among s o class frames n

-- whether a frame of some thread is engaged in the part of this class of an object
abbrev pub is_engaged : Total → ℕ → ClassId → Bool
is_engaged m o class = is_engaged_among m.setting o class m.frames m.started
