-- A small program with a protected class: it runs as its woven text does, and both machines' frames, words and locks are what
-- is read from ghost states.
use Rattle.std.specs.Prelude.{◌≡◌, ℕ, false, List, [], ◌∷◌, ◌++◌, map, take, drop, length, if◌then◌else◌, Option, Some, None, codes}
use Rattle.agxx_base.specs.declared.ids.ClassId.{ClassId}
use Rattle.agxx_base.specs.declared.kind.NumKind.TheVariants as kind
use Rattle.cxx_tree.specs.declared.operator.BinOp.TheVariants as op
use Rattle.cxx_core.specs.CoreStmt as cs
use Rattle.cxx_core.specs.CoreStmt.{CoreStmts}
use Rattle.cxx_core.specs.CoreProgram.{CoreWord}
use Rattle.step_machine.specs.declared.datum.Datum.{Datum}
use Rattle.step_machine.specs.declared.datum.Datum.TheVariants as datum
use Rattle.step_machine.specs.declared.outcome.State.TheVariants as state
use Rattle.step_machine.specs.Setting.{Setting}
use Rattle.step_machine.specs.Item.{Item, line_end, stmts_on}
use Rattle.step_machine.specs.Frame.{Frame}
use Rattle.step_machine.specs.Effects as on
use Rattle.step_machine.specs.World.{Object, holder_at}
use Rattle.step_machine.specs.Turn.{Thread, thread_at}
use Rattle.step_machine.specs.Examples.{cell, alone, ends}
use Rattle.step_machine.specs.WovenExample as woven
use Rattle.fault_model.specs.Admissible.{no_hits}
use Rattle.steady_laws.specs.EntryBlocks.{counts, free_lock}
use Rattle.part_protocol.specs.Part.{enter_runs}
use Rattle.ghost_state.specs.CoreCodes.{nowhere, Codes, copies}
use Rattle.ghost_state.specs.Names.{Naming, naming_of}
use Rattle.ghost_state.specs.ProtectedCore.{repair_number, block_names, protected_core}
use Rattle.ghost_state.specs.EntryFrames as frames
use Rattle.ghost_state.specs.EntryFrames.{part_frame}
use Rattle.ghost_state.specs.GhostFrames.{GhostItem, same, Stage, in_enter, after, GhostFrame, source_thread, woven_thread}
use Rattle.ghost_state.specs.Ghost.{Ghost, source_words, woven_words, woven_mutexes, held_in}

-- copies in each class
abbrev pub all_copies : Codes
all_copies class = Some copies

-- the table of the protected program's names begins with those of the program
abbrev pub naming : Naming
naming = naming_of woven.names all_copies cell.program

abbrev pub woven_cell : Setting
woven_cell = record { names = woven.names; program = protected_core naming all_copies cell.program }

-- ---- the whole run: as many steps as its woven text takes

pub record ProtectedCellRuns : Type 0 where
  pub state : (alone woven_cell 353).0.state ≡ ends 0
  pub output : (alone woven_cell 353).0.world.output ≡ codes "7" ++ line_end
  pub counts : (alone woven_cell 353).1 ≡ record { source = 27; inserted = 325; blocked = 0; idle = 1 }

-- ---- ghost states, with the frames that they share with the source

abbrev pub only : ClassId
only = record { 0 = 0 }

-- the class's only member
abbrev pub member : CoreWord
member = record { name = 1; kind = kind.U32 }

abbrev pub source_at : ℕ → Thread
source_at n = thread_at (alone cell n).0.threads 0

abbrev pub woven_at : ℕ → Thread
woven_at n = thread_at (alone woven_cell n).0.threads 0

-- a frame without parts, or in which the body is over
abbrev pub as_it_is : Frame → GhostFrame
as_it_is f = record {
  function = f.function;
  this = f.this;
  parts = [];
  held = [];
  locals = f.locals;
  threads = f.threads;
  values = f.values;
  kept = f.kept;
  items = [];
  tail = f.items;
  closed = false;
  stage = after;
  is_out = false;
}

abbrev pub as_they_are : Thread → List GhostFrame
as_they_are fs = map as_it_is fs

-- the first so many items are of the body
abbrev pub body_of : ℕ → List Item → List GhostItem
body_of n is = map same (take n is)

-- the frame that runs is in a part of the class, with so many items of its body left
abbrev pub in_part : ℕ → List ClassId → Stage → Thread → List GhostFrame
in_part n held stage [] = []
in_part n held stage (f ∷ fs) =
    record (as_it_is f) { parts = only ∷ []; held = held; items = body_of n f.items; tail = drop n f.items; stage = stage }
    ∷ as_they_are fs

-- ---- two moments of thread 0

-- before the first turn
abbrev pub at_first : List GhostFrame
at_first = as_they_are (source_at 0)

-- the constructor's enter begins to repair, 9 steps behind the lock
abbrev pub enter_rest : CoreStmts
enter_rest =
    cs.more_stmts (counts nowhere only (naming.count only) (naming.lock only) op.Add)
    (free_lock nowhere only (naming.count only) (naming.lock only))

abbrev pub repair_frames : List Frame
repair_frames =
    part_frame (repair_number all_copies cell.program only) 0 [] (stmts_on (copies.repair only (block_names naming all_copies cell.program only) (member ∷ [])) frames.ends)
    ∷ frames.entering naming all_copies cell.program 0 only [] (stmts_on enter_rest frames.ends)

abbrev pub in_repair : List GhostFrame
in_repair = in_part 0 [] (in_enter only [] (enter_runs 9 repair_frames)) (source_at 1)

-- ---- frames that are read of them are the machines'

abbrev pub woven_of : List GhostFrame → Thread
woven_of fs = woven_thread naming all_copies cell.program fs

-- what is seen of a thread: what the frame at the head has still to do, and the program's own frame that runs
abbrev pub first_items : Thread → List Item
first_items [] = []
first_items (f ∷ fs) = f.items

abbrev pub own_frames : Thread → Thread
own_frames [] = []
own_frames (f ∷ fs) = if f.is_generated then own_frames fs else f ∷ fs

abbrev pub first_locals : Thread → List (ℕ × Datum)
first_locals [] = []
first_locals (f ∷ fs) = f.locals

abbrev pub first_values : Thread → List Datum
first_values [] = []
first_values (f ∷ fs) = f.values

abbrev pub first_kept : Thread → Option Datum
first_kept [] = None
first_kept (f ∷ fs) = f.kept

abbrev pub AreSeen : Thread → Thread → Type 0
AreSeen fs hs =
    (length fs ≡ length hs) × (first_items fs ≡ first_items hs) × (first_items (own_frames fs) ≡ first_items (own_frames hs))
    × (first_locals (own_frames fs) ≡ first_locals (own_frames hs)) × (first_values (own_frames fs) ≡ first_values (own_frames hs))
    × (first_kept (own_frames fs) ≡ first_kept (own_frames hs))

pub record FramesAreRead : Type 0 where
  pub first : AreSeen (source_thread at_first) (source_at 0)
  pub first_woven : AreSeen (woven_of at_first) (woven_at 0)
  pub repair : AreSeen (source_thread in_repair) (source_at 1)
  pub repair_woven : AreSeen (woven_of in_repair) (woven_at 14)

-- ---- and so are the words and the lock of object 0, at five moments

abbrev pub holding : List ℕ → List ℕ → ℕ → Option ℕ → Ghost
holding values words count lock = record {
  frames = λ t. [];
  started = 1;
  made = 1;
  class = λ o. Some only;
  variable = λ name. datum.Null;
  shared = λ name. None;
  mutexes = λ o class. [];
  output = [];
  state = state.Running;
  values = λ o class. values;
  part = λ o class. record { words = words; count = count; lock = lock };
  hits = no_hits;
  broken = None;
}

abbrev pub object_words : List Object → List ℕ
object_words [] = []
object_words (o ∷ os) = o.words

-- after n turns of the source, and k of the protected program
abbrev pub AreHeld : ℕ → ℕ → Ghost → Type 0
AreHeld n k x =
    (source_words cell.program x 0 ≡ object_words (alone cell n).0.world.objects)
    × (woven_words cell.program x all_copies 0 ≡ object_words (alone woven_cell k).0.world.objects)
    × (held_in x.shared (woven_mutexes cell.program x all_copies) (on.inside 0 0) ≡ holder_at (alone woven_cell k).0.world (on.inside 0 0))

-- before the first turn, in a repair, in a body, in a renewal, and on the way out with a result
pub record WordsAreRead : Type 0 where
  pub first : AreHeld 0 0 (holding (0 ∷ []) (0 ∷ 0 ∷ 0 ∷ []) 0 None)
  pub repair : AreHeld 1 14 (holding (0 ∷ []) (0 ∷ 0 ∷ 0 ∷ []) 0 (Some 0))
  pub body : AreHeld 9 143 (holding (0 ∷ []) (0 ∷ 0 ∷ 0 ∷ []) 1 None)
  pub renewal : AreHeld 10 163 (holding (7 ∷ []) (7 ∷ 0 ∷ 0 ∷ []) 0 (Some 0))
  pub leave : AreHeld 17 232 (holding (7 ∷ []) (7 ∷ 7 ∷ 7 ∷ []) 1 None)
