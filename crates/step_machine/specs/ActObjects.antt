-- Items that construct an object or destroy one.
use Rattle.std.specs.Prelude.{ℕ, ◌||◌, nat_lt, nat_eq, Bool, ◌∷◌, Option, Some, None, if◌then◌else◌}
pub use Rattle.agxx_base.specs.Sizes.{object_limit}
use Rattle.agxx_base.specs.declared.ids.ClassId.{ClassId}
use Rattle.agxx_base.specs.declared.place.Place.{Place}
use Rattle.cxx_core.specs.CoreExpr as c
use Rattle.cxx_core.specs.CoreExpr.{CoreExprs}
use Rattle.cxx_core.specs.CoreProgram.{CoreFunction}
use Rattle.step_machine.specs.declared.outcome.Stop.TheVariants as stop
use Rattle.step_machine.specs.Data.{object_of, to_object}
use Rattle.step_machine.specs.Setting.{Setting, function_at, word_count, constructor_of, destructor_of}
use Rattle.step_machine.specs.Item as it
use Rattle.step_machine.specs.Item.{exprs_on}
use Rattle.step_machine.specs.Frame.{Frame, Binding, pushed, popped, top, arguments, frame_of, is_on}
use Rattle.step_machine.specs.Effects as on
use Rattle.step_machine.specs.Effects.{Act, goes, stops, stays}
use Rattle.step_machine.specs.ActEnter.{after_arguments, entering, enter_on, destruct}

module _ (s : Setting) (depth : ℕ) where
  -- ---- global objects

  module _ (class_of : ℕ → Option ClassId) where
    abbrev pub build_by : Place → ℕ → ClassId → Option ClassId → Frame → Act
    build_by at o class None f = stops stop.Dead at
    build_by at o class (Some live) f = enter_on s depth at (Some o) (constructor_of s class) f

    abbrev pub build : Place → ℕ → ClassId → Frame → Act
    build at o class f = build_by at o class (class_of o) f

    abbrev pub make_by : Place → ℕ → ClassId → CoreExprs → Option ClassId → Frame → Act
    make_by at o class es None f = stops stop.Dead at
    make_by at o class c.no_exprs (Some live) f = enter_on s depth at (Some o) (constructor_of s class) f
    make_by at o class (c.more_exprs e es) (Some live) f =
        stays (record f { items = exprs_on (c.more_exprs e es) (it.build at o class ∷ f.items) })

    abbrev pub make : Place → ℕ → ClassId → CoreExprs → Frame → Act
    make at o class es f = make_by at o class es (class_of o) f

  -- ---- objects of `new`

  module _ (made : ℕ) where
    abbrev pub created : ℕ → Place → ClassId → CoreFunction → Binding → Frame → Act
    created g at class function b f =
        entering s depth g at (pushed (to_object made) (after_arguments b f))
        (on.create_entering class (word_count s (Some class)) (frame_of s g function (Some made) b.1 it.returns))

    abbrev pub new_plain : ClassId → Frame → Act
    new_plain class f = goes (pushed (to_object made) f) (on.change (on.create class (word_count s (Some class))))

    abbrev pub new_of : ℕ → Place → ClassId → Option CoreFunction → Frame → Act
    new_of g at class None f = new_plain class f
    new_of g at class (Some function) f = created g at class function (arguments function f) f

    -- with the number of the constructor
    abbrev pub new_by : Place → ClassId → Option ℕ → Frame → Act
    new_by at class None f = new_plain class f
    new_by at class (Some g) f = new_of g at class (function_at s g) f

    abbrev pub new : Place → ClassId → Frame → Act
    new at class f = if nat_lt made object_limit then new_by at class (constructor_of s class) f else stops stop.Objects at

  -- ---- destruction

  module _ (class_of : ℕ → Option ClassId) (is_busy : ℕ → Bool) where
    -- whether any frame has the object as `this`
    abbrev pub is_used : ℕ → Frame → Bool
    is_used o f = is_on o f || is_busy o

    -- by frame f, which goes on as g
    abbrev pub destruct_unused : Place → ℕ → ClassId → Frame → Frame → Act
    destruct_unused at o class f g = if is_used o f then stops stop.Busy at else destruct s depth at o (destructor_of s class) g

    abbrev pub unmake_by : Place → ℕ → ClassId → Option ClassId → Frame → Act
    unmake_by at o class None f = stops stop.Dead at
    unmake_by at o class (Some live) f = destruct_unused at o class f f

    abbrev pub unmake : Place → ℕ → ClassId → Frame → Act
    unmake at o class f = unmake_by at o class (class_of o) f

    abbrev pub delete_by : Place → ℕ → ClassId → Option ClassId → Frame → Act
    delete_by at o class None f = stops stop.Dead at
    delete_by at o class (Some found) f =
        if nat_eq found.0 class.0 then destruct_unused at o class f (popped f) else stops stop.WrongDelete at

    abbrev pub delete_at : Place → ClassId → Option ℕ → Frame → Act
    delete_at at class None f = stays (popped f)
    delete_at at class (Some o) f = delete_by at o class (class_of o) f

    -- of a null pointer nothing
    abbrev pub delete : Place → ClassId → Frame → Act
    delete at class f = delete_at at class (object_of (top f)) f
