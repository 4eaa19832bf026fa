-- Items on mutexes and threads.
use Rattle.std.specs.Prelude.{ℕ, nat_lt, nat_eq, Bool, true, false, Option, Some, None, Result, Ok, Err, if◌then◌else◌}
use Rattle.agxx_base.specs.declared.ids.ClassId.{ClassId}
use Rattle.agxx_base.specs.declared.place.Place.{Place}
use Rattle.cxx_core.specs.CoreStmt as cs
use Rattle.cxx_core.specs.CoreStmt.{CoreMutex}
use Rattle.cxx_core.specs.CoreProgram.{CoreFunction}
use Rattle.step_machine.specs.declared.outcome.Stop.{Stop}
use Rattle.step_machine.specs.declared.outcome.Stop.TheVariants as stop
use Rattle.step_machine.specs.Entries.{entry, with_entry, without_entry}
use Rattle.step_machine.specs.Setting.{Setting, function_at, mutex_number}
use Rattle.step_machine.specs.Frame.{Frame, Binding, arguments, frame_of, ending_by}
use Rattle.step_machine.specs.Effects as on
use Rattle.step_machine.specs.Effects.{Lock, Act, goes, stops, waits, stays}

-- how many threads may be made
abbrev pub thread_limit : ℕ
thread_limit = 64

-- ---- mutexes

-- by the holder of the mutex
abbrev pub lock_by : ℕ → Place → Lock → Option ℕ → Frame → Act
lock_by t at m None f = goes f (on.change (on.take m))
lock_by t at m (Some holder) f = if nat_eq holder t then stops stop.SelfLock at else waits

abbrev pub is_holder : ℕ → Option ℕ → Bool
is_holder t None = false
is_holder t (Some holder) = nat_eq holder t

abbrev pub unlock_by : ℕ → Place → Lock → Option ℕ → Frame → Act
unlock_by t at m holder f = if is_holder t holder then goes f (on.change (on.free m)) else stops stop.NotHeld at

-- the mutex of an object that is live
abbrev pub mutex_by : Lock → Option ClassId → Result Lock Stop
mutex_by l None = Err stop.Dead
mutex_by l (Some class) = Ok l

module _ (holder : Lock → Option ℕ) (t : ℕ) (at : Place) where
  abbrev pub lock_found : Result Lock Stop → Frame → Act
  lock_found (Err cause) f = stops cause at
  lock_found (Ok l) f = lock_by t at l (holder l) f

  abbrev pub unlock_found : Result Lock Stop → Frame → Act
  unlock_found (Err cause) f = stops cause at
  unlock_found (Ok l) f = unlock_by t at l (holder l) f

module _ (s : Setting) (class_of : ℕ → Option ClassId) where
  abbrev pub member_mutex : ClassId → ℕ → Option ℕ → Result Lock Stop
  member_mutex class name None = Err stop.Null
  member_mutex class name (Some o) = mutex_by (on.inside o (mutex_number s class name)) (class_of o)

  -- the mutex that is meant in a frame, or why there is none
  abbrev pub mutex_now : CoreMutex → Frame → Result Lock Stop
  mutex_now (cs.global_mutex name) f = Ok (on.shared name)
  mutex_now (cs.member_mutex class name) f = member_mutex class name f.this

  -- by thread t
  abbrev pub lock : (Lock → Option ℕ) → ℕ → Place → CoreMutex → Frame → Act
  lock holder t at m f = lock_found holder t at (mutex_now m f) f

  abbrev pub unlock : (Lock → Option ℕ) → ℕ → Place → CoreMutex → Frame → Act
  unlock holder t at m f = unlock_found holder t at (mutex_now m f) f

-- ---- threads

abbrev pub join_by : ℕ → Bool → Frame → Act
join_by name false f = waits
join_by name true f = stays (record f { threads = without_entry f.threads name })

abbrev pub join_of : (ℕ → Bool) → Place → ℕ → Option ℕ → Frame → Act
join_of has_ended at name None f = stops stop.NotJoinable at
join_of has_ended at name (Some other) f = join_by name (has_ended other) f

abbrev pub join : (ℕ → Bool) → Place → ℕ → Frame → Act
join has_ended at name f = join_of has_ended at name (entry f.threads name) f

-- the number of the new thread is how many were made
module _ (s : Setting) (started : ℕ) where
  abbrev pub spawned : ℕ → ℕ → CoreFunction → Binding → Frame → Act
  spawned name g function b f =
      goes (record f { values = b.0; threads = with_entry f.threads name started })
      (on.start (frame_of s g function None b.1 (ending_by function.result)))

  abbrev pub spawn_of : ℕ → ℕ → Option CoreFunction → Frame → Act
  spawn_of name g None f = stays f
  spawn_of name g (Some function) f = spawned name g function (arguments function f) f

  abbrev pub spawn : Place → ℕ → ℕ → Frame → Act
  spawn at name g f = if nat_lt started thread_limit then spawn_of name g (function_at s g) f else stops stop.Threads at
