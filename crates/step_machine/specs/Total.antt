-- A run's state as functions, in which proofs about runs speak, and a turn on it. It reads and changes by the same
-- definitions of items.
use Rattle.std.specs.Prelude.{ℕ, zero, suc, Bool, true, false, ◌&&◌, List, [], ◌∷◌, ◌++◌, length, slice_get, replicate, Option, Some, None, option_map, if◌then◌else◌}
use Rattle.agxx_base.specs.declared.ids.ClassId.{ClassId}
use Rattle.step_machine.specs.declared.datum.Datum.{Datum}
use Rattle.step_machine.specs.declared.outcome.State.{State}
use Rattle.step_machine.specs.declared.outcome.State.TheVariants as state
use Rattle.step_machine.specs.declared.outcome.StepKind.{StepKind}
use Rattle.step_machine.specs.declared.outcome.StepKind.TheVariants as kind
use Rattle.step_machine.specs.Setting.{Setting}
use Rattle.step_machine.specs.Item.{Item}
use Rattle.step_machine.specs.Frame.{Frame, are_on, depth_of}
use Rattle.step_machine.specs.Effects as on
use Rattle.step_machine.specs.Effects.{Lock, Change, Turn, Did, did}
use Rattle.step_machine.specs.Reads.{Reads}
use Rattle.step_machine.specs.Act.{act}
use Rattle.step_machine.specs.Inserted.{is_inserted}
use Rattle.step_machine.specs.Turn.{Thread, Settled, settled, thread_at, has_ended}
use Rattle.step_machine.specs.World.{word_at, class_at, variable_at, holder_at}
use Rattle.step_machine.specs.Machine.{Machine, state_after, kind_of}

pub record Total : Type 0 where
  pub setting : Setting
  -- the bits of a word of a live object
  pub word : ℕ → ℕ → Option ℕ
  -- the class of a live object
  pub class : ℕ → Option ClassId
  pub variable : ℕ → Datum
  -- of a mutex; of one of an object, while that is live
  pub holder : Lock → Option ℕ
  -- how many objects, and how many threads, were made
  pub made : ℕ
  pub started : ℕ
  pub frames : ℕ → Thread
  pub output : List ℕ
  pub state : State

abbrev pub reading : Machine → Total
reading m = record {
  setting = m.setting;
  word = word_at m.world;
  class = class_at m.world;
  variable = variable_at m.world;
  holder = holder_at m.world;
  made = length m.world.objects;
  started = length m.threads;
  frames = thread_at m.threads;
  output = m.world.output;
  state = m.state;
}

-- ---- functions with one value changed

unfoldable pub same : ℕ → ℕ → Bool
same zero zero = true
same zero (suc b) = false
same (suc a) zero = false
same (suc a) (suc b) = same a b

abbrev pub upd : {A : Type 0} → (ℕ → A) → ℕ → A → ℕ → A
upd f p x q = if same q p then x else f q

abbrev pub same_lock : Lock → Lock → Bool
same_lock (on.shared a) (on.shared b) = same a b
same_lock (on.inside o a) (on.inside p b) = same o p && same a b
same_lock _ _ = false

-- ---- what a step of thread t reads, whose running frame is off

-- whether one of so many threads, the first ones, has a frame of the object
abbrev pub busy_in : (ℕ → Thread) → ℕ → ℕ → Bool
busy_in frames zero o = false
busy_in frames (suc n) o = if are_on o (frames n) then true else busy_in frames n o

abbrev pub reads : Total → ℕ → Reads
reads m t = record {
  word = m.word;
  class = m.class;
  variable = m.variable;
  holder = m.holder;
  made = m.made;
  started = m.started;
  has_ended = λ u. has_ended (m.frames u);
  is_busy = λ o. busy_in m.frames m.started o;
  depth = depth_of (m.frames t);
  printed = length m.output;
}

-- ---- changes

abbrev pub stored : (ℕ → ℕ → Option ℕ) → ℕ → ℕ → ℕ → ℕ → ℕ → Option ℕ
stored word o w bits p v = if same p o then (if same v w then option_map (λ _. bits) (word p v) else word p v) else word p v

abbrev pub zero_words : ℕ → ℕ → Option ℕ
zero_words words w = slice_get (replicate words 0) w

-- the mutexes of an object that is destroyed are nobody's
abbrev pub without_object : (Lock → Option ℕ) → ℕ → Lock → Option ℕ
without_object holder o (on.shared name) = holder (on.shared name)
without_object holder o (on.inside p k) = if same p o then None else holder (on.inside p k)

-- a function of mutexes with one value changed
abbrev pub upd_lock : (Lock → Option ℕ) → Lock → Option ℕ → Lock → Option ℕ
upd_lock holder l h k = if same_lock k l then h else holder k

abbrev pub is_some_class : Option ClassId → Bool
is_some_class None = false
is_some_class (Some class) = true

-- whether there is such a mutex
abbrev pub is_there : (ℕ → Option ClassId) → Lock → Bool
is_there class (on.shared name) = true
is_there class (on.inside o k) = is_some_class (class o)

abbrev pub held_of : Lock → Option ℕ → Total → Total
held_of l h m = record m { holder = if is_there m.class l then upd_lock m.holder l h else m.holder }

abbrev pub change_of : ℕ → Change → Total → Total
change_of t (on.store o w bits) m = record m { word = stored m.word o w bits }
change_of t (on.assign name v) m = record m { variable = upd m.variable name v }
change_of t (on.print text) m = record m { output = m.output ++ text }
change_of t (on.create class words) m =
    record m { word = upd m.word m.made (zero_words words); class = upd m.class m.made (Some class); made = suc m.made }
change_of t (on.kill o) m =
    record m { word = upd m.word o (λ w. None); class = upd m.class o None; holder = without_object m.holder o }
change_of t (on.take l) m = held_of l (Some t) m
change_of t (on.free l) m = held_of l None m

abbrev pub shared_after : ℕ → Turn → Total → Total
shared_after t (on.changed c) m = change_of t c m
shared_after t (on.started f) m = record m { frames = upd m.frames m.started (f ∷ []); started = suc m.started }
shared_after t _ m = m

abbrev pub with_state : State → Total → Total
with_state now m = record m { state = now }

abbrev pub after_of : ℕ → Turn → Total → Total
after_of t r m = with_state (state_after r) (shared_after t r m)

-- ---- a turn

abbrev pub OffThread : Type 0
OffThread = Frame × Item × Thread

abbrev pub off_item : Frame → Thread → List Item → Option OffThread
off_item f fs [] = None
off_item f fs (i ∷ is) = Some (record f { items = is }, i, fs)

-- the running frame and its first item are taken off
abbrev pub off_thread : Thread → Option OffThread
off_thread [] = None
off_thread (f ∷ fs) = off_item f fs f.items

abbrev pub NextOf : Type 0
NextOf = Total × StepKind

abbrev pub landed_of : Total → ℕ → Bool → Settled → NextOf
landed_of m t inserted r = (after_of t r.1 (record m { frames = upd m.frames t r.0 }), kind_of r.1 inserted)

abbrev pub turn_of : Total → ℕ → Option OffThread → NextOf
turn_of m t None = (after_of t on.idle m, kind.Idle)
turn_of m t (Some o) =
    landed_of m t (is_inserted m.setting o.1 o.0)
    (let d = did o.0 (act m.setting (reads (record m { frames = upd m.frames t o.2 }) t) t o.1 o.0) in settled o.1 o.2 d.0 d.1)

abbrev pub next_if : State → Total → ℕ → NextOf
next_if state.Running m t = turn_of m t (off_thread (m.frames t))
next_if _ m t = (m, kind.Idle)

abbrev pub next_of : Total → ℕ → NextOf
next_of m t = next_if m.state m t
