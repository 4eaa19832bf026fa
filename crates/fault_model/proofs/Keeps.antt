-- The frame that is there after an item has the `this` and the function of the one that it ran on, and a thread starts
-- without `this`.
use Rattle.std.proofs.Common.{◌≡◌, ℕ, ◌+◌, Bool, true, false, if◌then◌else◌, nat_eq, nat_lt, nat_le, List, [], ◌∷◌, length, Option, Some, None, Result, Ok, Err, refl}
use Rattle.agxx_base.specs.declared.ids.ClassId.{ClassId}
use Rattle.agxx_base.specs.declared.kind.NumKind.{NumKind}
use Rattle.agxx_base.specs.declared.place.Place.{Place}
use Rattle.cxx_arith.specs.declared.value.ArithStop.{ArithStop}
use Rattle.cxx_arith.specs.Arithmetic.{apply_one_of}
use Rattle.cxx_names.specs.declared.types.ValueType.{ValueType}
use Rattle.cxx_core.specs.CoreExpr as c
use Rattle.cxx_core.specs.CoreExpr.{CoreVariable, CoreObject, CoreLeft, CoreExpr, CoreExprs, CoreCallee}
use Rattle.cxx_core.specs.CoreStmt as cs
use Rattle.cxx_core.specs.CoreStmt.{CoreSource, CoreStmt}
use Rattle.cxx_core.specs.CoreProgram.{CoreFunction}
use Rattle.step_machine.specs.declared.datum.Datum.{Datum}
use Rattle.step_machine.specs.declared.outcome.Stop.{Stop}
use Rattle.step_machine.specs.declared.outcome.Stop.TheVariants as stop
use Rattle.step_machine.specs.Data.{first, rest, object_of, to_object, as_number, is_true}
use Rattle.step_machine.specs.Entries.{entry}
use Rattle.step_machine.specs.Setting.{Setting, function_at, global_object, is_of, word_count, word_number, constructor_of, destructor_of}
use Rattle.step_machine.specs.Item as it
use Rattle.step_machine.specs.Item.{Item, Ending}
use Rattle.step_machine.specs.Frame.{Frame, Binding, pushed, popped, top, arguments, frame_of, ending_by}
use Rattle.step_machine.specs.Effects as on
use Rattle.step_machine.specs.Effects.{Lock, Deed, Act, goes, stops, waits, stays}
use Rattle.step_machine.specs.Reads.{Reads}
use Rattle.step_machine.specs.ActValues as values
use Rattle.step_machine.specs.ActMembers as members
use Rattle.step_machine.specs.ActMembers.{output_limit, object_now, class_now, is_other, read_word, read_member, put_word, put_member}
use Rattle.step_machine.specs.ActThreads as threads
use Rattle.step_machine.specs.ActThreads.{thread_limit}
use Rattle.step_machine.specs.ActEnter as enter
use Rattle.step_machine.specs.ActEnter.{after_arguments, has_room}
use Rattle.step_machine.specs.ActCalls as calls
use Rattle.step_machine.specs.ActObjects as objects
use Rattle.step_machine.specs.ActObjects.{object_limit}
use Rattle.step_machine.specs.Act as machine
use Rattle.step_machine.specs.Act.{act}

abbrev pub StartsWithout : Deed → Type 0
StartsWithout (on.start g) = g.this ≡ None
StartsWithout _ = Unit {0}

abbrev pub Keeps : Option ℕ → Option ℕ → Act → Type 0
Keeps this function (goes g d) = (g.this ≡ this) × ((g.function ≡ function) × StartsWithout d)
Keeps this function _ = Unit {0}

-- of an item that ran on this frame
abbrev pub KeepsOf : Frame → Act → Type 0
KeepsOf f = Keeps f.this f.function

if-act : (this function : Option ℕ) (b : Bool) (x y : Act) → Keeps this function x → Keeps this function y → Keeps this function (if b then x else y)
if-act this function true x y p q = p
if-act this function false x y p q = q

-- ---- values

resulting : (x : Result Datum ArithStop) (at : Place) (f below : Frame) → KeepsOf below (values.resulting x at f below)
resulting (Err why) at f below = tt
resulting (Ok v) at f below = (refl, (refl, tt))

short-by : (b : Bool) (e : CoreExpr) (f : Frame) → KeepsOf f (values.short_by b e f)
short-by true e f = (refl, (refl, tt))
short-by false e f = (refl, (refl, tt))

-- ---- output

shows : (printed : ℕ) (at : Place) (text : List ℕ) (f : Frame) → KeepsOf f (members.shows printed at text f)
shows printed at text f =
    if-act f.this f.function (nat_le (printed + length text) output_limit) (goes f (on.change (on.print text))) (stops stop.Output at)
    (refl, (refl, tt)) tt

-- ---- mutexes and threads

lock-by : (t : ℕ) (at : Place) (l : Lock) (o : Option ℕ) (f : Frame) → KeepsOf f (threads.lock_by t at l o f)
lock-by t at l None f = (refl, (refl, tt))
lock-by t at l (Some holder) f = if-act f.this f.function (nat_eq holder t) (stops stop.SelfLock at) waits tt tt

lock-found : (holder : Lock → Option ℕ) (t : ℕ) (at : Place) (x : Result Lock Stop) (f : Frame) → KeepsOf f (threads.lock_found holder t at x f)
lock-found holder t at (Err cause) f = tt
lock-found holder t at (Ok l) f = lock-by t at l (holder l) f

unlock-found : (holder : Lock → Option ℕ) (t : ℕ) (at : Place) (x : Result Lock Stop) (f : Frame) → KeepsOf f (threads.unlock_found holder t at x f)
unlock-found holder t at (Err cause) f = tt
unlock-found holder t at (Ok l) f =
    if-act f.this f.function (threads.is_holder t (holder l)) (goes f (on.change (on.free l))) (stops stop.NotHeld at)
    (refl, (refl, tt)) tt

join-by : (name : ℕ) (b : Bool) (f : Frame) → KeepsOf f (threads.join_by name b f)
join-by name false f = tt
join-by name true f = (refl, (refl, tt))

join-of : (has_ended : ℕ → Bool) (at : Place) (name : ℕ) (o : Option ℕ) (f : Frame) → KeepsOf f (threads.join_of has_ended at name o f)
join-of has_ended at name None f = tt
join-of has_ended at name (Some other) f = join-by name (has_ended other) f

spawn-of : (s : Setting) (started name g : ℕ) (o : Option CoreFunction) (f : Frame) → KeepsOf f (threads.spawn_of s started name g o f)
spawn-of s started name g None f = (refl, (refl, tt))
spawn-of s started name g (Some x) f = (refl, (refl, refl))

spawn : (s : Setting) (started : ℕ) (at : Place) (name g : ℕ) (f : Frame) → KeepsOf f (threads.spawn s started at name g f)
spawn s started at name g f =
    if-act f.this f.function (nat_lt started thread_limit) (threads.spawn_of s started name g (function_at s g) f) (stops stop.Threads at)
    (spawn-of s started name g (function_at s g) f) tt

-- ---- statements

declare : (name : ℕ) (t : ValueType) (source : Option CoreSource) (f : Frame) → KeepsOf f (machine.declare name t source f)
declare name t None f = (refl, (refl, tt))
declare name t (Some (cs.copy from u)) f = (refl, (refl, tt))
declare name t (Some (cs.value e)) f = (refl, (refl, tt))

returned : (at : Place) (t : ValueType) (source : CoreSource) (f : Frame) → KeepsOf f (machine.returned at t source f)
returned at t (cs.copy from u) f = (refl, (refl, tt))
returned at t (cs.value e) f = (refl, (refl, tt))

-- ---- frames that are left

joined : (ts : List (ℕ × ℕ)) (at : Place) (f : Frame) (x : Act) → KeepsOf f x → KeepsOf f (calls.joined ts at x)
joined [] at f x k = k
joined (t ∷ ts) at f x k = tt

leave : (at : Place) (f : Frame) → KeepsOf f (calls.leave at f)
leave at f = joined f.threads at f (goes f (on.back f.kept)) (refl, (refl, tt))

module _ (is_busy : ℕ → Bool) where
  end-destroying : (at : Place) (o : Option ℕ) (f : Frame) → KeepsOf f (calls.end_destroying is_busy at o f)
  end-destroying at None f = joined f.threads at f (goes f (on.back None)) (refl, (refl, tt))
  end-destroying at (Some o) f =
      if-act f.this f.function (is_busy o) (stops stop.Busy at) (calls.joined f.threads at (goes f (on.back_killing o)))
      tt (joined f.threads at f (goes f (on.back_killing o)) (refl, (refl, tt)))

  end : (at : Place) (ending : Ending) (f : Frame) → KeepsOf f (calls.end is_busy at ending f)
  end at it.returns f = joined f.threads at f (goes f (on.back None)) (refl, (refl, tt))
  end at it.lacks_value f = joined f.threads at f (stops stop.NoReturn at) tt
  end at it.destroys f = end-destroying at f.this f

module _ (s : Setting) (depth : ℕ) where
  -- ---- frames that are entered

  entering : (g : ℕ) (at : Place) (f : Frame) (deed : Deed) → StartsWithout deed → KeepsOf f (enter.entering s depth g at f deed)
  entering g at f deed h = if-act f.this f.function (has_room s depth g f) (goes f deed) (stops stop.Depth at) (refl, (refl, h)) tt

  enters : (g : ℕ) (at : Place) (x : CoreFunction) (this : Option ℕ) (ending : Ending) (b : Binding) (f : Frame)
      → KeepsOf f (enter.enter s depth g at x this ending b f)
  enters g at x this ending b f = entering g at (after_arguments b f) (on.enter (frame_of s g x this b.1 ending)) tt

  run-of : (g : ℕ) (o : Option CoreFunction) (f : Frame) → KeepsOf f (enter.run_of s depth g o f)
  run-of g None f = (refl, (refl, tt))
  run-of g (Some x) f = enters g x.name.at x None (ending_by x.result) (arguments x f) f

  run-by : (o : Option ℕ) (f : Frame) → KeepsOf f (enter.run_by s depth o f)
  run-by None f = (refl, (refl, tt))
  run-by (Some g) f = run-of g (function_at s g) f

  enter-on-of : (g : ℕ) (at : Place) (o : Option ℕ) (x : Option CoreFunction) (f : Frame) → KeepsOf f (enter.enter_on_of s depth g at o x f)
  enter-on-of g at o None f = (refl, (refl, tt))
  enter-on-of g at o (Some x) f = enters g at x o it.returns (arguments x f) f

  enter-on : (at : Place) (o : Option ℕ) (g : Option ℕ) (f : Frame) → KeepsOf f (enter.enter_on s depth at o g f)
  enter-on at o None f = (refl, (refl, tt))
  enter-on at o (Some g) f = enter-on-of g at o (function_at s g) f

  destruct-of : (g : ℕ) (at : Place) (o : ℕ) (x : Option CoreFunction) (f : Frame) → KeepsOf f (enter.destruct_of s depth g at o x f)
  destruct-of g at o None f = (refl, (refl, tt))
  destruct-of g at o (Some x) f = enters g at x (Some o) it.destroys (arguments x f) f

  destruct : (at : Place) (o : ℕ) (g : Option ℕ) (f : Frame) → KeepsOf f (enter.destruct s depth at o g f)
  destruct at o None f = (refl, (refl, tt))
  destruct at o (Some g) f = destruct-of g at o (function_at s g) f

  module _ (class_of : ℕ → Option ClassId) where
    -- ---- calls

    call-on : (g : ℕ) (at : Place) (x : CoreFunction) (o : ℕ) (live : Option ClassId) (b : Binding) (f : Frame)
        → KeepsOf f (calls.call_on s depth class_of g at x o live b f)
    call-on g at x o None b f = tt
    call-on g at x o (Some live) b f =
        if-act f.this f.function (is_of s (Some live) x.class) (enter.enter s depth g at x (Some o) (ending_by x.result) b f) (stays f)
        (enters g at x (Some o) (ending_by x.result) b f) (refl, (refl, tt))

    call-at : (g : ℕ) (at : Place) (x : CoreFunction) (o : Option ℕ) (b : Binding) (f : Frame) → KeepsOf f (calls.call_at s depth class_of g at x o b f)
    call-at g at x None b f = tt
    call-at g at x (Some o) b f = call-on g at x o (class_of o) b f

    call-by : (g : ℕ) (at : Place) (x : CoreFunction) (o : Option CoreObject) (b : Binding) (f : Frame) → KeepsOf f (calls.call_by s depth class_of g at x o b f)
    call-by g at x None b f = enters g at x None (ending_by x.result) b f
    call-by g at x (Some c.own) b f = call-at g at x f.this b f
    call-by g at x (Some c.by_this) b f = call-at g at x f.this b f
    call-by g at x (Some (c.by_object name static)) b f = call-at g at x (Some (global_object s name)) b f
    call-by g at x (Some (c.by_pointer v)) b f = call-at g at x (object_of (first b.0)) (rest b.0, b.1) f

    call-of : (callee : CoreCallee) (o : Option CoreFunction) (f : Frame) → KeepsOf f (calls.call_of s depth class_of callee o f)
    call-of callee None f = (refl, (refl, tt))
    call-of callee (Some x) f = call-by callee.function callee.at x callee.object (arguments x f) f

    -- ---- objects

    build-by : (at : Place) (o : ℕ) (class : ClassId) (live : Option ClassId) (f : Frame) → KeepsOf f (objects.build_by s depth class_of at o class live f)
    build-by at o class None f = tt
    build-by at o class (Some live) f = enter-on at (Some o) (constructor_of s class) f

    make-by : (at : Place) (o : ℕ) (class : ClassId) (es : CoreExprs) (live : Option ClassId) (f : Frame)
        → KeepsOf f (objects.make_by s depth class_of at o class es live f)
    make-by at o class c.no_exprs None f = tt
    make-by at o class (c.more_exprs e es) None f = tt
    make-by at o class c.no_exprs (Some live) f = enter-on at (Some o) (constructor_of s class) f
    make-by at o class (c.more_exprs e es) (Some live) f = (refl, (refl, tt))

    module _ (is_busy : ℕ → Bool) where
      unused : (at : Place) (o : ℕ) (class : ClassId) (f g : Frame) → KeepsOf g (objects.destruct_unused s depth class_of is_busy at o class f g)
      unused at o class f g =
          if-act g.this g.function (objects.is_used s depth class_of is_busy o f) (stops stop.Busy at) (enter.destruct s depth at o (destructor_of s class) g)
          tt (destruct at o (destructor_of s class) g)

      unmake-by : (at : Place) (o : ℕ) (class : ClassId) (live : Option ClassId) (f : Frame) → KeepsOf f (objects.unmake_by s depth class_of is_busy at o class live f)
      unmake-by at o class None f = tt
      unmake-by at o class (Some live) f = unused at o class f f

      delete-by : (at : Place) (o : ℕ) (class : ClassId) (live : Option ClassId) (f : Frame) → KeepsOf f (objects.delete_by s depth class_of is_busy at o class live f)
      delete-by at o class None f = tt
      delete-by at o class (Some found) f =
          if-act f.this f.function (nat_eq found.0 class.0) (objects.destruct_unused s depth class_of is_busy at o class f (popped f)) (stops stop.WrongDelete at)
          (unused at o class f (popped f)) tt

      delete-at : (at : Place) (class : ClassId) (o : Option ℕ) (f : Frame) → KeepsOf f (objects.delete_at s depth class_of is_busy at class o f)
      delete-at at class None f = (refl, (refl, tt))
      delete-at at class (Some o) f = delete-by at o class (class_of o) f

  module _ (made : ℕ) where
    new-of : (g : ℕ) (at : Place) (class : ClassId) (o : Option CoreFunction) (f : Frame) → KeepsOf f (objects.new_of s depth made g at class o f)
    new-of g at class None f = (refl, (refl, tt))
    new-of g at class (Some x) f =
        entering g at (pushed (to_object made) (after_arguments (arguments x f) f))
        (on.create_entering class (word_count s (Some class)) (frame_of s g x (Some made) (arguments x f).1 it.returns)) tt

    new-by : (at : Place) (class : ClassId) (g : Option ℕ) (f : Frame) → KeepsOf f (objects.new_by s depth made at class g f)
    new-by at class None f = (refl, (refl, tt))
    new-by at class (Some g) f = new-of g at class (function_at s g) f

    new : (at : Place) (class : ClassId) (f : Frame) → KeepsOf f (objects.new s depth made at class f)
    new at class f =
        if-act f.this f.function (nat_lt made object_limit) (objects.new_by s depth made at class (constructor_of s class) f) (stops stop.Objects at)
        (new-by at class (constructor_of s class) f) tt

module _ (s : Setting) (r : Reads) where
  -- ---- members

  read-word : (at : Place) (k : NumKind) (o : Option ℕ) (f : Frame) → KeepsOf f (read_word at k o f)
  read-word at k None f = tt
  read-word at k (Some bits) f = (refl, (refl, tt))

  read-member : (at : Place) (k : NumKind) (w : ℕ) (o : Option ℕ) (f : Frame) → KeepsOf f (read_member r.word at k w o f)
  read-member at k w None f = tt
  read-member at k w (Some o) f = read-word at k (r.word o w) f

  read : (l : CoreLeft) (f : Frame) → KeepsOf f (members.read s r l f)
  read (c.variable v) f = (refl, (refl, tt))
  read (c.member at o class name k) f =
      let p : Option ℕ = object_now s r.variable f o in
      if-act f.this f.function (is_other s class (class_now r.class p)) (stays f) (read_member r.word at k (word_number s class name) p f)
      (refl, (refl, tt)) (read-member at k (word_number s class name) p f)

  put-word : (at : Place) (k : NumKind) (o w : ℕ) (x : Option ℕ) (f : Frame) → KeepsOf f (put_word at k o w x f)
  put-word at k o w None f = tt
  put-word at k o w (Some bits) f = (refl, (refl, tt))

  put-member : (at : Place) (k : NumKind) (w : ℕ) (o : Option ℕ) (f : Frame) → KeepsOf f (put_member r.word at k w o f)
  put-member at k w None f = tt
  put-member at k w (Some o) f = put-word at k o w (r.word o w) f

  put-variable : (v : CoreVariable) (f : Frame) → KeepsOf f (members.put_variable v f)
  put-variable (c.local name t) f = (refl, (refl, tt))
  put-variable (c.global is_global name t) f = (refl, (refl, tt))

  put : (l : CoreLeft) (f : Frame) → KeepsOf f (members.put s r l f)
  put (c.variable v) f = put-variable v f
  put (c.member at o class name k) f =
      let p : Option ℕ = object_now s r.variable f o in
      if-act f.this f.function (is_other s class (class_now r.class p)) (stays f) (put_member r.word at k (word_number s class name) p f)
      (refl, (refl, tt)) (put-member at k (word_number s class name) p f)

  -- ---- expressions

  expr : (e : CoreExpr) (f : Frame) → KeepsOf f (machine.expr s r e f)
  expr (c.number v) f = (refl, (refl, tt))
  expr c.null f = (refl, (refl, tt))
  expr (c.this class) f = (refl, (refl, tt))
  expr (c.read l) f = read l f
  expr (c.address name class) f = (refl, (refl, tt))
  expr (c.unary at o t a) f = (refl, (refl, tt))
  expr (c.binary at o t u a b) f = (refl, (refl, tt))
  expr (c.and t u a b) f = (refl, (refl, tt))
  expr (c.or t u a b) f = (refl, (refl, tt))
  expr (c.cast k t a) f = (refl, (refl, tt))
  expr (c.call callee es) f = (refl, (refl, tt))
  expr (c.new at class es) f = (refl, (refl, tt))
  expr (c.wrong at) f = (refl, (refl, tt))

  -- ---- statements

  stmt : (t : ℕ) (x : CoreStmt) (f : Frame) → KeepsOf f (machine.stmt s r t x f)
  stmt t (cs.block body) f = (refl, (refl, tt))
  stmt t (cs.declare name u source) f = declare name u source f
  stmt t (cs.assign l e) f = (refl, (refl, tt))
  stmt t (cs.update at o u v l e) f = (refl, (refl, tt))
  stmt t (cs.run e) f = (refl, (refl, tt))
  stmt t (cs.join at name) f = join-of r.has_ended at name (entry f.threads name) f
  stmt t (cs.lock at m) f = lock-found r.holder t at (threads.mutex_now s r.class m f) f
  stmt t (cs.unlock at m) f = unlock-found r.holder t at (threads.mutex_now s r.class m f) f
  stmt t (cs.branch e a b) f = (refl, (refl, tt))
  stmt t (cs.while e body) f = (refl, (refl, tt))
  stmt t (cs.for start e step body) f = (refl, (refl, tt))
  stmt t (cs.return at) f = (refl, (refl, tt))
  stmt t (cs.return_value at u source) f = returned at u source f
  stmt t (cs.delete at class e) f = (refl, (refl, tt))
  stmt t (cs.print qs) f = (refl, (refl, tt))
  stmt t (cs.thread at name g called es) f = (refl, (refl, tt))
  stmt t cs.abort f = (refl, (refl, tt))
  stmt t (cs.wrong at) f = (refl, (refl, tt))

  -- ---- items

  pub act-keeps : (t : ℕ) (i : Item) (f : Frame) → KeepsOf f (act s r t i f)
  act-keeps t (it.make at o class es) f = make-by s r.depth r.class at o class es (r.class o) f
  act-keeps t (it.build at o class) f = build-by s r.depth r.class at o class (r.class o) f
  act-keeps t (it.unmake at o class) f = unmake-by s r.depth r.class r.is_busy at o class (r.class o) f
  act-keeps t it.run f = run-by s r.depth s.program.main f
  act-keeps t it.finish f = (refl, (refl, tt))
  act-keeps t (it.stmt x) f = stmt t x f
  act-keeps t (it.expr e) f = expr e f
  act-keeps t (it.op_one at o) f = resulting (values.given (apply_one_of o (as_number (top f)))) at f (popped f)
  act-keeps t (it.op_two at o) f = resulting (values.two_of o (top (popped f)) (top f)) at f (popped (popped f))
  act-keeps t (it.op_left at o) f = resulting (values.two_of o (top f) (top (popped f))) at f (popped (popped f))
  act-keeps t (it.cast k) f = (refl, (refl, tt))
  act-keeps t (it.short is_and e) f = short-by (values.goes_on is_and (is_true (top f))) e f
  act-keeps t it.truth f = (refl, (refl, tt))
  act-keeps t it.drop f = (refl, (refl, tt))
  act-keeps t (it.bind name u) f = (refl, (refl, tt))
  act-keeps t (it.put l) f = put l f
  act-keeps t (it.keep u) f = (refl, (refl, tt))
  act-keeps t (it.print at) f = shows r.printed at (members.text_of (top f)) (popped f)
  act-keeps t (it.show at text) f = shows r.printed at text f
  act-keeps t (it.branch a b) f = (refl, (refl, tt))
  act-keeps t (it.loop e body) f = (refl, (refl, tt))
  act-keeps t (it.for_test e step body) f = (refl, (refl, tt))
  act-keeps t (it.for_loop e step body) f = (refl, (refl, tt))
  act-keeps t (it.call callee) f = call-of s r.depth r.class callee (function_at s callee.function) f
  act-keeps t (it.new at class) f = new s r.depth r.made at class f
  act-keeps t (it.delete at class) f = delete-at s r.depth r.class r.is_busy at class (object_of (top f)) f
  act-keeps t (it.spawn at name g) f = spawn s r.started at name g f
  act-keeps t (it.up at g) f = enter-on s r.depth at f.this (Some g) f
  act-keeps t (it.down at g) f = enter-on s r.depth at f.this (Some g) f
  act-keeps t (it.leave at) f = leave at f
  act-keeps t (it.end at ending) f = end r.is_busy at ending f
