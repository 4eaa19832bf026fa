-- One turn as both machines take it: what it is to the other threads, and the ghost state after it.
use Rattle.std.specs.Prelude.{ℕ, suc, ◌+◌, ℤ, Bool, List, [], ◌∷◌, ◌++◌, length, Option, Some, None, slice_set, if◌then◌else◌}
use Rattle.agxx_base.specs.declared.ids.ClassId.{ClassId}
use Rattle.agxx_base.specs.declared.place.Place.{Place}
use Rattle.cxx_core.specs.CoreProgram.{CoreProgram, CoreClass}
use Rattle.step_machine.specs.declared.datum.Datum.{Datum}
use Rattle.step_machine.specs.declared.outcome.Stop.{Stop}
use Rattle.step_machine.specs.Setting.{Setting, word_count, mutex_count, class_at}
use Rattle.step_machine.specs.Effects as on
use Rattle.step_machine.specs.Effects.{Lock, Turn, did}
use Rattle.step_machine.specs.Reads.{Reads}
use Rattle.step_machine.specs.Act.{act}
use Rattle.step_machine.specs.Inserted.{by_protection, by_advice}
use Rattle.step_machine.specs.Turn.{Thread, Settled, settled}
use Rattle.step_machine.specs.Machine.{state_after}
use Rattle.step_machine.specs.Total.{Total, same, upd, reads, OffThread, off_thread, after_of}
use Rattle.part_protocol.specs.Part.{Part}
use Rattle.ghost_state.specs.CoreCodes.{CoreCode, Codes}
use Rattle.ghost_state.specs.Names.{Naming}
use Rattle.ghost_state.specs.GhostFrames.{GhostFrame, source_frame, woven_frame}
use Rattle.ghost_state.specs.Ghost.{Ghost, source_setting, woven_setting}

-- ---- a turn of a thread, of what it reads with these frames below the running one

-- whether what protection made did it, and whether what advice made; and the thread after it, with what it is to the others
pub record Answered : Type 0 where
  pub inserted : Bool
  pub advised : Bool
  pub settled : Settled

-- none where the thread has no item
abbrev pub Answer : Type 0
Answer = Option Answered

abbrev pub answer_of : Setting → (Thread → Reads) → ℕ → Option OffThread → Answer
answer_of s reads_over t None = None
answer_of s reads_over t (Some x) = Some (record {
  inserted = by_protection s x.1 x.0;
  advised = by_advice s x.1 x.0;
  settled = (let d = did x.0 (act s (reads_over x.2) t x.1 x.0) in settled x.1 x.2 d.0 d.1);
})

abbrev pub reads_over : Total → ℕ → Thread → Reads
reads_over m t fs = reads (record m { frames = upd m.frames t fs }) t

abbrev pub answer : Total → ℕ → Answer
answer m t = answer_of m.setting (reads_over m t) t (off_thread (m.frames t))

-- what becomes of the state
abbrev pub applied : Total → ℕ → Settled → Total
applied m t r = after_of t r.1 (record m { frames = upd m.frames t r.0 })

-- ---- what a turn is to the others, in terms of both machines

pub data GhostLock : Type 0 where
  shared : ℕ → GhostLock
  -- of an object, by the class that declares it and its order there
  own : ℕ → ClassId → ℕ → GhostLock

pub data Deed : Type 0 where
  went : Deed
  -- a member, by the class that declares it and its order there
  stores : ℕ → ClassId → ℕ → ℕ → Deed
  assigns : ℕ → Datum → Deed
  prints : List ℕ → Deed
  creates : ClassId → Deed
  kills : ℕ → Deed
  takes : GhostLock → Deed
  frees : GhostLock → Deed
  starts : GhostFrame → Deed
  ends : ℤ → Deed
  stops : Stop → Place → Deed
  -- ---- of protection alone
  -- a word of a part, by its order, or its counter; and its lock
  writes : ℕ → ClassId → ℕ → ℕ → Deed
  counts : ℕ → ClassId → ℕ → Deed
  locks : ℕ → ClassId → Deed
  unlocks : ℕ → ClassId → Deed

-- how many words, and mutexes, the classes above one have
abbrev pub words_above : Setting → Option CoreClass → ℕ
words_above s None = 0
words_above s (Some found) = word_count s found.base

abbrev pub base_words : Setting → ClassId → ℕ
base_words s class = words_above s (class_at s class)

abbrev pub mutexes_above : Setting → Option CoreClass → ℕ
mutexes_above s None = 0
mutexes_above s (Some found) = mutex_count s found.base

abbrev pub base_mutexes : Setting → ClassId → ℕ
base_mutexes s class = mutexes_above s (class_at s class)

abbrev pub mutexes_by : Option CoreClass → List ℕ
mutexes_by None = []
mutexes_by (Some found) = found.mutexes

abbrev pub lock_in : Setting → GhostLock → Lock
lock_in s (shared name) = on.shared name
lock_in s (own o class i) = on.inside o (base_mutexes s class + i)

module _ (texts : List (List ℕ)) (names : Naming) (g : Codes) (p : CoreProgram) where
  abbrev pub S : Setting
  S = source_setting texts names g p

  abbrev pub W : Setting
  W = woven_setting texts names g p

  -- the lock of a part, behind the mutexes that the class declares
  abbrev pub part_lock : ℕ → ClassId → Lock
  part_lock o class = on.inside o (base_mutexes W class + length (mutexes_by (class_at S class)))

  -- in the source
  abbrev pub source_turn : Deed → Turn
  source_turn (stores o class i bits) = on.changed (on.store o (base_words S class + i) bits)
  source_turn (assigns name v) = on.changed (on.assign name v)
  source_turn (prints text) = on.changed (on.print text)
  source_turn (creates class) = on.changed (on.create class (word_count S (Some class)))
  source_turn (kills o) = on.changed (on.kill o)
  source_turn (takes l) = on.changed (on.take (lock_in S l))
  source_turn (frees l) = on.changed (on.free (lock_in S l))
  source_turn (starts f) = on.started (source_frame f)
  source_turn (ends z) = on.ended z
  source_turn (stops cause at) = on.stopped cause at
  source_turn d = on.went

  -- in the protected program; `part` is that of the deed
  abbrev pub woven_turn : (ℕ → ClassId → Part) → Deed → Turn
  woven_turn part went = on.went
  woven_turn part (stores o class i bits) = on.changed (on.store o (base_words W class + i) bits)
  woven_turn part (assigns name v) = on.changed (on.assign name v)
  woven_turn part (prints text) = on.changed (on.print text)
  woven_turn part (creates class) = on.changed (on.create class (word_count W (Some class)))
  woven_turn part (kills o) = on.changed (on.kill o)
  woven_turn part (takes l) = on.changed (on.take (lock_in W l))
  woven_turn part (frees l) = on.changed (on.free (lock_in W l))
  woven_turn part (starts f) = on.started (woven_frame names g p f)
  woven_turn part (ends z) = on.ended z
  woven_turn part (stops cause at) = on.stopped cause at
  woven_turn part (writes o class i bits) = on.changed (on.store o (base_words W class + i) bits)
  woven_turn part (counts o class n) = on.changed (on.store o (base_words W class + length (part o class).words) n)
  woven_turn part (locks o class) = on.changed (on.take (part_lock o class))
  woven_turn part (unlocks o class) = on.changed (on.free (part_lock o class))
  -- ---- the state after it

-- of one class of an object alone
abbrev pub upd_of : {A : Type 0} → (ℕ → ClassId → A) → ℕ → ClassId → A → ℕ → ClassId → A
upd_of f o class x q k = if same q o then (if same k.0 class.0 then x else f q k) else f q k

abbrev pub held_after : GhostLock → Option ℕ → Ghost → Ghost
held_after (shared name) holder x = record x { shared = upd x.shared name holder }
held_after (own o class i) holder x =
    record x { mutexes = upd_of x.mutexes o class (slice_set (x.mutexes o class) i holder) }

abbrev pub with_word : ℕ → ℕ → Part → Part
with_word i bits a = record a { words = slice_set a.words i bits }

abbrev pub stored_by : Option CoreCode → ℕ → ℕ → Part → Part
stored_by None i bits a = a
stored_by (Some code) i bits a = with_word i bits a

abbrev pub with_part : ℕ → ClassId → Part → Ghost → Ghost
with_part o class a x = record x { part = upd_of x.part o class a }

module _ (g : Codes) where
  -- numbers of objects are never used twice, and each part is there from the start, with all words 0
  abbrev pub changed_by : ℕ → Deed → Ghost → Ghost
  changed_by t went x = x
  changed_by t (stores o class i bits) x = record x {
    values = upd_of x.values o class (slice_set (x.values o class) i bits);
    part = upd_of x.part o class (stored_by (g class) i bits (x.part o class));
  }
  changed_by t (assigns name v) x = record x { variable = upd x.variable name v }
  changed_by t (prints text) x = record x { output = x.output ++ text }
  changed_by t (creates class) x = record x { class = upd x.class x.made (Some class); made = suc x.made }
  changed_by t (kills o) x = record x { class = upd x.class o None }
  changed_by t (takes l) x = held_after l (Some t) x
  changed_by t (frees l) x = held_after l None x
  changed_by t (starts f) x = record x { frames = upd x.frames x.started (f ∷ []); started = suc x.started }
  changed_by t (ends z) x = x
  changed_by t (stops cause at) x = x
  changed_by t (writes o class i bits) x = with_part o class (with_word i bits (x.part o class)) x
  changed_by t (counts o class n) x = with_part o class (record (x.part o class) { count = n }) x
  changed_by t (locks o class) x = with_part o class (record (x.part o class) { lock = Some t }) x
  changed_by t (unlocks o class) x = with_part o class (record (x.part o class) { lock = None }) x

  module _ (texts : List (List ℕ)) (names : Naming) (p : CoreProgram) where
    -- thread t's frames are these then
    abbrev pub after_deed : ℕ → List GhostFrame → Deed → Ghost → Ghost
    after_deed t fs d x =
        record (changed_by t d (record x { frames = upd x.frames t fs })) { state = state_after (source_turn texts names g p d) }
