-- What the threads share, and how a change goes on.
use Rattle.std.specs.Prelude.{ℕ, true, false, List, [], ◌∷◌, ◌++◌, slice_get, slice_set, replicate, Bool, Option, Some, None, if◌then◌else◌}
use Rattle.agxx_base.specs.declared.ids.ClassId.{ClassId}
use Rattle.step_machine.specs.declared.datum.Datum.{Datum}
use Rattle.step_machine.specs.declared.datum.Datum.TheVariants as datum
use Rattle.step_machine.specs.Entries.{entry, with_entry}
use Rattle.step_machine.specs.Effects as on
use Rattle.step_machine.specs.Effects.{Lock, Change}

pub record Object : Type 0 where
  pub class : ClassId
  pub live : Bool
  -- the bits of its words
  pub words : List ℕ
  -- who holds its mutexes, by their numbers; nobody where there is no entry
  pub holders : List (ℕ × Option ℕ)

pub record World : Type 0 where
  -- each stands at its number
  pub objects : List Object
  -- the values of globals, by their names
  pub variables : List (ℕ × Datum)
  -- who holds the global mutexes, by their names; nobody where there is no entry
  pub holders : List (ℕ × Option ℕ)
  -- all that was printed
  pub output : List ℕ

-- ---- what is there

abbrev pub word_by : Option Object → ℕ → Option ℕ
word_by None w = None
word_by (Some o) w = if o.live then slice_get o.words w else None

-- a word of a live object
abbrev pub word_at : World → ℕ → ℕ → Option ℕ
word_at world o w = word_by (slice_get world.objects o) w

abbrev pub class_by : Option Object → Option ClassId
class_by None = None
class_by (Some o) = if o.live then Some o.class else None

-- the class of a live object
abbrev pub class_at : World → ℕ → Option ClassId
class_at world o = class_by (slice_get world.objects o)

abbrev pub value_or_null : Option Datum → Datum
value_or_null None = datum.Null
value_or_null (Some v) = v

abbrev pub variable_at : World → ℕ → Datum
variable_at world name = value_or_null (entry world.variables name)

abbrev pub holder_in : Option (Option ℕ) → Option ℕ
holder_in None = None
holder_in (Some holder) = holder

abbrev pub holder_by : Option Object → ℕ → Option ℕ
holder_by None m = None
holder_by (Some o) m = if o.live then holder_in (entry o.holders m) else None

abbrev pub holder_at : World → Lock → Option ℕ
holder_at world (on.shared name) = holder_in (entry world.holders name)
holder_at world (on.inside o m) = holder_by (slice_get world.objects o) m

-- ---- changes; where there is no such live object, nothing changes

abbrev pub new_object : ClassId → ℕ → Object
new_object class words = record { class = class; live = true; words = replicate words 0; holders = [] }

abbrev pub with_word : ℕ → ℕ → Object → Object
with_word w bits o = record o { words = slice_set o.words w bits }

abbrev pub with_holder : ℕ → Option ℕ → Object → Object
with_holder m holder o = record o { holders = with_entry o.holders m holder }

abbrev pub killed : Object → Object
killed o = record o { live = false }

abbrev pub object_changed_by : Option Object → ℕ → (Object → Object) → List Object → List Object
object_changed_by None o change objects = objects
object_changed_by (Some found) o change objects = if found.live then slice_set objects o (change found) else objects

abbrev pub object_changed : ℕ → (Object → Object) → World → World
object_changed o change world =
    record world { objects = object_changed_by (slice_get world.objects o) o change world.objects }

abbrev pub held : Lock → Option ℕ → World → World
held (on.shared name) holder world = record world { holders = with_entry world.holders name holder }
held (on.inside o m) holder world = object_changed o (with_holder m holder) world

-- a change that thread t makes
abbrev pub changed : ℕ → Change → World → World
changed t (on.store o w bits) world = object_changed o (with_word w bits) world
changed t (on.assign name v) world = record world { variables = with_entry world.variables name v }
changed t (on.print text) world = record world { output = world.output ++ text }
changed t (on.create class words) world = record world { objects = world.objects ++ new_object class words ∷ [] }
changed t (on.kill o) world = object_changed o killed world
changed t (on.take m) world = held m (Some t) world
changed t (on.free m) world = held m None world
