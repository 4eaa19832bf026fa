-- Calls, and the items that leave a frame.
use Rattle.std.specs.Prelude.{ℕ, Bool, List, [], ◌∷◌, Option, Some, None, if◌then◌else◌}
use Rattle.agxx_base.specs.declared.ids.ClassId.{ClassId}
use Rattle.agxx_base.specs.declared.place.Place.{Place}
use Rattle.cxx_core.specs.CoreExpr as c
use Rattle.cxx_core.specs.CoreExpr.{CoreObject, CoreCallee}
use Rattle.cxx_core.specs.CoreProgram.{CoreFunction}
use Rattle.step_machine.specs.declared.outcome.Stop.TheVariants as stop
use Rattle.step_machine.specs.Data.{first, rest, object_of}
use Rattle.step_machine.specs.Setting.{Setting, function_at, global_object, is_of}
use Rattle.step_machine.specs.Item as it
use Rattle.step_machine.specs.Item.{Ending}
use Rattle.step_machine.specs.Frame.{Frame, Binding, arguments, ending_by}
use Rattle.step_machine.specs.Effects as on
use Rattle.step_machine.specs.Effects.{Act, goes, stops, stays}
use Rattle.step_machine.specs.ActEnter.{enter}

module _ (s : Setting) (depth : ℕ) (class : ℕ → Option ClassId) where
  -- an object without such a function is none that an accepted program comes to
  abbrev pub call_on : ℕ → Place → CoreFunction → ℕ → Option ClassId → Binding → Frame → Act
  call_on g at function o None b f = stops stop.Dead at
  call_on g at function o (Some live) b f =
      if is_of s (Some live) function.class
      then enter s depth g at function (Some o) (ending_by function.result) b f
      else stays f

  abbrev pub call_at : ℕ → Place → CoreFunction → Option ℕ → Binding → Frame → Act
  call_at g at function None b f = stops stop.Null at
  call_at g at function (Some o) b f = call_on g at function o (class o) b f

  -- a pointer stands below the arguments
  abbrev pub call_by : ℕ → Place → CoreFunction → Option CoreObject → Binding → Frame → Act
  call_by g at function None b f = enter s depth g at function None (ending_by function.result) b f
  call_by g at function (Some c.own) b f = call_at g at function f.this b f
  call_by g at function (Some c.by_this) b f = call_at g at function f.this b f
  call_by g at function (Some (c.by_object name static)) b f = call_at g at function (Some (global_object s name)) b f
  call_by g at function (Some (c.by_pointer v)) b f = call_at g at function (object_of (first b.0)) (rest b.0, b.1) f

  abbrev pub call_of : CoreCallee → Option CoreFunction → Frame → Act
  call_of callee None f = stays f
  call_of callee (Some function) f = call_by callee.function callee.at function callee.object (arguments function f) f

  abbrev pub call : CoreCallee → Frame → Act
  call callee f = call_of callee (function_at s callee.function) f

-- ---- leaving

-- where no thread of the frame is left to be joined
abbrev pub joined : List (ℕ × ℕ) → Place → Act → Act
joined [] at act = act
joined (t ∷ ts) at act = stops stop.Joinable at

abbrev pub leave : Place → Frame → Act
leave at f = joined f.threads at (goes f (on.back f.kept))

module _ (is_busy : ℕ → Bool) where
  abbrev pub end_killing : Place → ℕ → Frame → Act
  end_killing at o f = if is_busy o then stops stop.Busy at else joined f.threads at (goes f (on.back_killing o))

  abbrev pub end_destroying : Place → Option ℕ → Frame → Act
  end_destroying at None f = joined f.threads at (goes f (on.back None))
  end_destroying at (Some o) f = end_killing at o f

  abbrev pub end : Place → Ending → Frame → Act
  end at it.returns f = joined f.threads at (goes f (on.back None))
  end at it.lacks_value f = joined f.threads at (stops stop.NoReturn at)
  end at it.destroys f = end_destroying at f.this f
