-- What a heap holds: objects, each at its number.
use Rattle.std.specs.Prelude.{ℕ, Bool, true, false, is_some, nat_le, List, length, slice_get, Option, Some, None}
use Rattle.agxx_base.specs.Sizes.{object_limit}
use Rattle.agxx_base.specs.declared.ids.ClassId.{ClassId}
use Rattle.step_machine.specs.World.{Object, word_by, class_by, holder_by, object_changed_by}
use Rattle.step_world.specs.declared.heap.HeapError.{HeapError}
use Rattle.step_world.specs.declared.heap.HeapError.TheVariants as error

abbrev pub live_by : Option Object → Bool
live_by None = false
live_by (Some o) = o.live

-- an object was made and not killed
abbrev pub is_live : List Object → ℕ → Bool
is_live objects o = live_by (slice_get objects o)

-- the class of a live object
abbrev pub class_in : List Object → ℕ → Option ClassId
class_in objects o = class_by (slice_get objects o)

-- a word of a live object
abbrev pub word_in : List Object → ℕ → ℕ → Option ℕ
word_in objects o w = word_by (slice_get objects o) w

abbrev pub has_word : List Object → ℕ → ℕ → Bool
has_word objects o w = is_some (word_in objects o w)

-- who holds a mutex of a live object
abbrev pub holder_of : List Object → ℕ → ℕ → Option ℕ
holder_of objects o m = holder_by (slice_get objects o) m

-- a live object is changed
abbrev pub altered : List Object → ℕ → (Object → Object) → List Object
altered objects o change = object_changed_by (slice_get objects o) o change objects

-- as many objects were made as may be
abbrev pub is_full : List Object → Bool
is_full objects = nat_le object_limit (length objects)

-- the error says that the heap is full
abbrev pub tells_full : HeapError → Bool
tells_full error.Full = true
tells_full error.Memory = false
