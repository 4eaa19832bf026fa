-- A run's state, and the turn of one of its threads.
use Rattle.std.specs.Prelude.{ℕ, Bool, true, false, List, [], ◌∷◌, ◌++◌, length, slice_get, slice_set, Option, Some, None, option_map}
use Rattle.agxx_base.specs.declared.ids.ObjectId.{ObjectId}
use Rattle.step_machine.specs.declared.outcome.State.{State}
use Rattle.step_machine.specs.declared.outcome.State.TheVariants as state
use Rattle.step_machine.specs.declared.outcome.StepKind.{StepKind}
use Rattle.step_machine.specs.declared.outcome.StepKind.TheVariants as kind
use Rattle.step_machine.specs.Setting.{Setting}
use Rattle.step_machine.specs.Item.{Item}
use Rattle.step_machine.specs.Frame.{Frame, any_on, depth_of}
use Rattle.step_machine.specs.Effects as on
use Rattle.step_machine.specs.Effects.{Did, did, Turn}
use Rattle.step_machine.specs.Reads.{Reads}
use Rattle.step_machine.specs.Act.{act}
use Rattle.step_machine.specs.Turn.{thread_at, has_ended, Thread, Threads, Settled, settled}
use Rattle.step_machine.specs.World.{World, word_at, class_at, variable_at, holder_at, changed}
use Rattle.step_machine.specs.Inserted.{is_inserted}

pub record Machine : Type 0 where
  pub setting : Setting
  -- each stands at its number
  pub threads : Threads
  pub world : World
  pub state : State

-- ---- the running frame and its first item are taken off

abbrev pub Off : Type 0
Off = Frame × Item × Threads

abbrev pub off_items : ℕ → Threads → Frame → Thread → List Item → Option Off
off_items t ths f fs [] = None
off_items t ths f fs (i ∷ is) = Some (record f { items = is }, i, slice_set ths t fs)

abbrev pub off_frames : ℕ → Threads → Thread → Option Off
off_frames t ths [] = None
off_frames t ths (f ∷ fs) = off_items t ths f fs f.items

abbrev pub off_at : ℕ → Threads → Option Thread → Option Off
off_at t ths None = None
off_at t ths (Some fs) = off_frames t ths fs

abbrev pub taken_off : ℕ → Threads → Option Off
taken_off t ths = off_at t ths (slice_get ths t)

-- ---- what is read is the rest

-- by thread t, whose running frame is off
abbrev pub reads_of : Setting → World → ℕ → Threads → Reads
reads_of s world t ths = record {
  word = word_at world;
  class = class_at world;
  variable = variable_at world;
  holder = holder_at world;
  made = length world.objects;
  started = length ths;
  has_ended = λ u. has_ended (thread_at ths u);
  is_busy = λ o. any_on o ths;
  depth = depth_of (thread_at ths t);
  printed = length world.output;
}

-- ---- they are put back, as the effect says

-- the threads, what the turn is to the others, and whether a step of it is inserted
abbrev pub Turned : Type 0
Turned = Threads × Turn × Bool

abbrev pub put_frames : ℕ → Threads → Bool → Settled → Turned
put_frames t ths inserted r = (slice_set ths t r.0, r.1, inserted)

abbrev pub put_at : ℕ → Threads → Bool → Option Thread → Item → Did → Turned
put_at t ths inserted None i d = (ths, on.idle, inserted)
put_at t ths inserted (Some fs) i d = put_frames t ths inserted (settled i fs d.0 d.1)

abbrev pub turn_off : Setting → World → ℕ → Threads → Option Off → Turned
turn_off s world t ths None = (ths, on.idle, false)
turn_off s world t ths (Some o) =
    put_at t o.2 (is_inserted s o.1 o.0) (slice_get o.2 t) o.1 (did o.0 (act s (reads_of s world t o.2) t o.1 o.0))

-- the turn of thread t, where the run is not over
abbrev pub turned : Setting → World → ℕ → Threads → Turned
turned s world t ths = turn_off s world t ths (taken_off t ths)

-- ---- the only place where what is shared changes

abbrev pub world_after : ℕ → Turn → World → World
world_after t (on.changed c) world = changed t c world
world_after t _ world = world

abbrev pub threads_after : Turn → Threads → Threads
threads_after (on.started f) ths = ths ++ (f ∷ []) ∷ []
threads_after _ ths = ths

abbrev pub as_object : ℕ → ObjectId
as_object o = record { 0 = o }

abbrev pub state_after : Turn → State
state_after (on.ended z) = state.Ended z
state_after (on.halted o class) = state.Halted (option_map as_object o) class
state_after (on.stopped cause at) = state.Stopped cause at
state_after _ = state.Running

abbrev pub after : ℕ → Turn → Machine → Machine
after t r m = record m { threads = threads_after r m.threads; world = world_after t r m.world; state = state_after r }

-- ---- a turn

abbrev pub step_kind : Bool → StepKind
step_kind true = kind.Inserted
step_kind false = kind.Source

abbrev pub kind_of : Turn → Bool → StepKind
kind_of on.blocked inserted = kind.Blocked
kind_of on.idle inserted = kind.Idle
kind_of _ inserted = step_kind inserted

abbrev pub Next : Type 0
Next = Machine × StepKind

abbrev pub landed : Machine → ℕ → Turned → Next
landed m t r = (after t r.1 (record m { threads = r.0 }), kind_of r.1 r.2)

abbrev pub next_by : State → Machine → ℕ → Next
next_by state.Running m t = landed m t (turned m.setting m.world t m.threads)
next_by _ m t = (m, kind.Idle)

-- once the run is over, every turn is idle
abbrev pub next : Machine → ℕ → Next
next m t = next_by m.state m t
