-- Items that enter a frame, or leave one, bring no `std::abort();` into it.
use Rattle.std.proofs.Common.{◌≡◌, ℕ, Bool, nat_eq, nat_lt, List, [], ◌∷◌, Option, Some, None, refl}
use Rattle.agxx_base.specs.declared.ids.ClassId.{ClassId}
use Rattle.agxx_base.specs.declared.place.Place.{Place}
use Rattle.cxx_core.specs.CoreExpr as c
use Rattle.cxx_core.specs.CoreExpr.{CoreExprs, CoreObject, CoreCallee}
use Rattle.cxx_core.specs.CoreProgram.{CoreFunction}
use Rattle.step_machine.specs.declared.outcome.Stop.TheVariants as stop
use Rattle.step_machine.specs.Data.{first, rest, object_of, to_object}
use Rattle.step_machine.specs.Setting.{Setting, function_at, global_object, is_of, word_count, constructor_of, destructor_of}
use Rattle.step_machine.specs.Item as it
use Rattle.step_machine.specs.Item.{Ending}
use Rattle.step_machine.specs.Frame.{Frame, Binding, pushed, popped, top, arguments, frame_of, ending_by}
use Rattle.step_machine.specs.Effects as on
use Rattle.step_machine.specs.Effects.{Deed, Act, goes, stops, stays}
use Rattle.step_machine.specs.ActEnter.{after_arguments, has_room, entering, enter, run, run_of, run_by, enter_on, enter_on_of, destruct, destruct_of}
use Rattle.step_machine.specs.ActCalls.{call_on, call_at, call_by, call_of, call, joined, leave, end, end_destroying}
use Rattle.step_machine.specs.ActObjects.{object_limit, make, make_by, build, build_by, unmake, unmake_by, new, new_by, new_of, delete, delete_by, delete_at, destruct_unused, is_used}
use Rattle.step_machine.specs.ActThreads.{thread_limit, spawn, spawn_of}
use Rattle.run_laws.specs.HaltFree.{AreHaltFree, HasNoAbort}
use Rattle.run_laws.proofs.Frames.{AreFree, FreeDeed, FreeAct, if-act, exprs-on, function-items}

module _ (s : Setting) (program : HasNoAbort s.program) where
  abbrev pub Kept : Act → Type 0
  Kept = FreeAct

  abbrev Items : Frame → Type 0
  Items f = AreFree f.items

  abbrev Good : CoreFunction → Type 0
  Good f = AreHaltFree f.body

  -- what a function's number means, in each of its uses
  with-function : (P : Option CoreFunction → Type 0) → P None → ((x : CoreFunction) → Good x → P (Some x)) → (g : ℕ) → P (function_at s g)
  with-function P none some g = by (function_at s g) refl
    where
      by : (o : Option CoreFunction) → function_at s g ≡ o → P o
      by None e = none
      by (Some x) e = some x (program g x e)

  module _ (depth : ℕ) where
    pub entering-free : (g : ℕ) (at : Place) (f : Frame) (deed : Deed) → Items f → FreeDeed deed → Kept (entering s depth g at f deed)
    entering-free g at f deed h d = if-act (has_room s depth g f) (goes f deed) (stops stop.Depth at) (h, d) tt

    enter-free : (g : ℕ) (at : Place) (x : CoreFunction) (this : Option ℕ) (ending : Ending) (b : Binding) (f : Frame) → Good x → Items f
        → Kept (enter s depth g at x this ending b f)
    enter-free g at x this ending b f good h =
        entering-free g at (after_arguments b f) (on.enter (frame_of s g x this b.1 ending)) h (function-items x ending good)

    -- ---- `main`, constructors and destructors

    run-by : (o : Option ℕ) (f : Frame) → Items f → Kept (run_by s depth o f)
    run-by None f h = (h, tt)
    run-by (Some g) f h =
        with-function (λ o. Kept (run_of s depth g o f)) (h, tt)
        (λ x good. enter-free g x.name.at x None (ending_by x.result) (arguments x f) f good h) g

    pub run-free : (f : Frame) → Items f → Kept (run s depth f)
    run-free f h = run-by s.program.main f h

    pub enter-on : (at : Place) (o : Option ℕ) (g : Option ℕ) (f : Frame) → Items f → Kept (enter_on s depth at o g f)
    enter-on at o None f h = (h, tt)
    enter-on at o (Some g) f h =
        with-function (λ x. Kept (enter_on_of s depth g at o x f)) (h, tt)
        (λ x good. enter-free g at x o it.returns (arguments x f) f good h) g

    destruct-free : (at : Place) (o : ℕ) (g : Option ℕ) (f : Frame) → Items f → Kept (destruct s depth at o g f)
    destruct-free at o None f h = (h, tt)
    destruct-free at o (Some g) f h =
        with-function (λ x. Kept (destruct_of s depth g at o x f)) (h, tt)
        (λ x good. enter-free g at x (Some o) it.destroys (arguments x f) f good h) g

    -- ---- calls

    module _ (class_of : ℕ → Option ClassId) where
      on-object : (g : ℕ) (at : Place) (x : CoreFunction) (o : ℕ) (live : Option ClassId) (b : Binding) (f : Frame) → Good x → Items f → Kept (call_on s depth class_of g at x o live b f)
      on-object g at x o None b f good h = tt
      on-object g at x o (Some live) b f good h =
          if-act (is_of s (Some live) x.class) (enter s depth g at x (Some o) (ending_by x.result) b f) (stays f)
          (enter-free g at x (Some o) (ending_by x.result) b f good h) (h, tt)

      at-object : (g : ℕ) (at : Place) (x : CoreFunction) (o : Option ℕ) (b : Binding) (f : Frame) → Good x → Items f → Kept (call_at s depth class_of g at x o b f)
      at-object g at x None b f good h = tt
      at-object g at x (Some o) b f good h = on-object g at x o (class_of o) b f good h

      by-object : (g : ℕ) (at : Place) (x : CoreFunction) (o : Option CoreObject) (b : Binding) (f : Frame) → Good x → Items f → Kept (call_by s depth class_of g at x o b f)
      by-object g at x None b f good h = enter-free g at x None (ending_by x.result) b f good h
      by-object g at x (Some c.own) b f good h = at-object g at x f.this b f good h
      by-object g at x (Some c.by_this) b f good h = at-object g at x f.this b f good h
      by-object g at x (Some (c.by_object name static)) b f good h = at-object g at x (Some (global_object s name)) b f good h
      by-object g at x (Some (c.by_pointer v)) b f good h = at-object g at x (object_of (first b.0)) (rest b.0, b.1) f good h

      pub call-free : (callee : CoreCallee) (f : Frame) → Items f → Kept (call s depth class_of callee f)
      call-free callee f h =
          with-function (λ o. Kept (call_of s depth class_of callee o f)) (h, tt)
          (λ x good. by-object callee.function callee.at x callee.object (arguments x f) f good h) callee.function

      -- ---- objects

      build-by : (at : Place) (o : ℕ) (class : ClassId) (live : Option ClassId) (f : Frame) → Items f → Kept (build_by s depth class_of at o class live f)
      build-by at o class None f h = tt
      build-by at o class (Some live) f h = enter-on at (Some o) (constructor_of s class) f h

      pub build-free : (at : Place) (o : ℕ) (class : ClassId) (f : Frame) → Items f → Kept (build s depth class_of at o class f)
      build-free at o class f h = build-by at o class (class_of o) f h

      make-by : (at : Place) (o : ℕ) (class : ClassId) (es : CoreExprs) (live : Option ClassId) (f : Frame) → Items f → Kept (make_by s depth class_of at o class es live f)
      make-by at o class c.no_exprs None f h = tt
      make-by at o class (c.more_exprs e es) None f h = tt
      make-by at o class c.no_exprs (Some live) f h = enter-on at (Some o) (constructor_of s class) f h
      make-by at o class (c.more_exprs e es) (Some live) f h = (exprs-on (c.more_exprs e es) (it.build at o class ∷ f.items) (tt, h), tt)

      pub make-free : (at : Place) (o : ℕ) (class : ClassId) (es : CoreExprs) (f : Frame) → Items f → Kept (make s depth class_of at o class es f)
      make-free at o class es f h = make-by at o class es (class_of o) f h

      module _ (is_busy : ℕ → Bool) where
        unused-free : (at : Place) (o : ℕ) (class : ClassId) (f g : Frame) → Items g → Kept (destruct_unused s depth class_of is_busy at o class f g)
        unused-free at o class f g h =
            if-act (is_used s depth class_of is_busy o f) (stops stop.Busy at) (destruct s depth at o (destructor_of s class) g)
            tt (destruct-free at o (destructor_of s class) g h)

        unmake-by : (at : Place) (o : ℕ) (class : ClassId) (live : Option ClassId) (f : Frame) → Items f → Kept (unmake_by s depth class_of is_busy at o class live f)
        unmake-by at o class None f h = tt
        unmake-by at o class (Some live) f h = unused-free at o class f f h

        pub unmake-free : (at : Place) (o : ℕ) (class : ClassId) (f : Frame) → Items f → Kept (unmake s depth class_of is_busy at o class f)
        unmake-free at o class f h = unmake-by at o class (class_of o) f h

        delete-by : (at : Place) (o : ℕ) (class : ClassId) (live : Option ClassId) (f : Frame) → Items f → Kept (delete_by s depth class_of is_busy at o class live f)
        delete-by at o class None f h = tt
        delete-by at o class (Some found) f h =
            if-act (nat_eq found.0 class.0) (destruct_unused s depth class_of is_busy at o class f (popped f)) (stops stop.WrongDelete at)
            (unused-free at o class f (popped f) h) tt

        delete-at : (at : Place) (class : ClassId) (o : Option ℕ) (f : Frame) → Items f → Kept (delete_at s depth class_of is_busy at class o f)
        delete-at at class None f h = (h, tt)
        delete-at at class (Some o) f h = delete-by at o class (class_of o) f h

        pub delete-free : (at : Place) (class : ClassId) (f : Frame) → Items f → Kept (delete s depth class_of is_busy at class f)
        delete-free at class f h = delete-at at class (object_of (top f)) f h

    module _ (made : ℕ) where
      new-by : (at : Place) (class : ClassId) (g : Option ℕ) (f : Frame) → Items f → Kept (new_by s depth made at class g f)
      new-by at class None f h = (h, tt)
      new-by at class (Some g) f h =
          with-function (λ o. Kept (new_of s depth made g at class o f)) (h, tt)
          (λ x good. entering-free g at (pushed (to_object made) (after_arguments (arguments x f) f))
          (on.create_entering class (word_count s (Some class)) (frame_of s g x (Some made) (arguments x f).1 it.returns)) h (function-items x it.returns good))
          g

      pub new-free : (at : Place) (class : ClassId) (f : Frame) → Items f → Kept (new s depth made at class f)
      new-free at class f h =
          if-act (nat_lt made object_limit) (new_by s depth made at class (constructor_of s class) f) (stops stop.Objects at)
          (new-by at class (constructor_of s class) f h) tt

  -- ---- threads

  pub spawn-free : (started : ℕ) (at : Place) (name g : ℕ) (f : Frame) → Items f → Kept (spawn s started at name g f)
  spawn-free started at name g f h =
      if-act (nat_lt started thread_limit) (spawn_of s started name g (function_at s g) f) (stops stop.Threads at)
      (with-function (λ o. Kept (spawn_of s started name g o f)) (h, tt) (λ x good. (h, function-items x (ending_by x.result) good)) g) tt

  -- ---- frames that are left

  joined-free : (ts : List (ℕ × ℕ)) (at : Place) (x : Act) → Kept x → Kept (joined ts at x)
  joined-free [] at x k = k
  joined-free (t ∷ ts) at x k = tt

  pub leave-free : (at : Place) (f : Frame) → Items f → Kept (leave at f)
  leave-free at f h = joined-free f.threads at (goes f (on.back f.kept)) (h, tt)

  module _ (is_busy : ℕ → Bool) where
    end-destroying : (at : Place) (o : Option ℕ) (f : Frame) → Items f → Kept (end_destroying is_busy at o f)
    end-destroying at None f h = joined-free f.threads at (goes f (on.back None)) (h, tt)
    end-destroying at (Some o) f h =
        if-act (is_busy o) (stops stop.Busy at) (joined f.threads at (goes f (on.back_killing o)))
        tt (joined-free f.threads at (goes f (on.back_killing o)) (h, tt))

    pub end-free : (at : Place) (ending : Ending) (f : Frame) → Items f → Kept (end is_busy at ending f)
    end-free at it.returns f h = joined-free f.threads at (goes f (on.back None)) (h, tt)
    end-free at it.lacks_value f h = joined-free f.threads at (stops stop.NoReturn at) tt
    end-free at it.destroys f h = end-destroying at f.this f h
