-- What a thread's frames are to one part, and the rules of a part by its code.
use Rattle.std.specs.Prelude.{ℕ, suc, ◌+◌, ◌*◌, Bool, true, false, not, ◌&&◌, List, [], ◌∷◌, length, Option, Some, None, map}
use Rattle.std.specs.List.{list_any}
use Rattle.agxx_base.specs.declared.ids.ClassId.{ClassId}
use Rattle.cxx_core.specs.CoreProgram.{CoreProgram, CoreWord}
use Rattle.step_machine.specs.Setting.{class_at}
use Rattle.step_machine.specs.Frame.{Frame, is_object}
use Rattle.step_machine.specs.Total.{same}
use Rattle.codec_laws.specs.Solo.{Alone, solo_step}
use Rattle.part_protocol.specs.Part.{EnterStep, enter_ends, Position, outside, entry, exit, Role}
use Rattle.part_protocol.specs.Rules.{Rules}
use Rattle.ghost_state.specs.CoreCodes.{CoreCode, size_of, Codes}
use Rattle.ghost_state.specs.Names.{Naming, words_by}
use Rattle.ghost_state.specs.ProtectedCore.{repair_number, renew_number, member_kinds, part_words}
use Rattle.ghost_state.specs.EntryFrames as frames
use Rattle.ghost_state.specs.GhostFrames.{Stage, before, entering, in_enter, in_leave, GhostFrame}
use Rattle.ghost_state.specs.Deeds.{S, W, base_words}

-- ---- one frame

abbrev pub tally : Bool → ℕ → ℕ
tally true n = suc n
tally false n = n

-- how often a class stands in a list
abbrev pub occurs : ClassId → List ClassId → ℕ
occurs class [] = 0
occurs class (k ∷ ks) = tally (same class.0 k.0) (occurs class ks)

abbrev pub if_on : Bool → ℕ → ℕ
if_on true n = n
if_on false n = 0

-- whether an enter is past its unlock
abbrev pub is_past : EnterStep → Bool
is_past enter_ends = true
is_past s = false

abbrev pub passed_at : ClassId → List ClassId → List ClassId → Stage → ℕ
passed_at class parts held (before first) = occurs class held
passed_at class parts held (entering u k todo) = occurs class held
passed_at class parts held (in_enter k todo s) = tally (is_past s && same class.0 k.0) (occurs class held)
passed_at class parts held stage = occurs class parts

abbrev pub when : Bool → Position → Position
when true x = x
when false x = outside

abbrev pub position_at : ClassId → Stage → Position
position_at class (in_enter k todo s) = when (same class.0 k.0) (entry s)
position_at class (in_leave x k s) = when (same class.0 k.0) (exit s)
position_at class stage = outside

-- ---- a thread, for the part of a class of an object

module _ (o : ℕ) (class : ClassId) where
  abbrev pub held_in : List GhostFrame → ℕ
  held_in [] = 0
  held_in (f ∷ fs) = if_on (is_object o f.this) (occurs class f.held) + held_in fs

  abbrev pub passed_in : List GhostFrame → ℕ
  passed_in [] = 0
  passed_in (f ∷ fs) = if_on (is_object o f.this) (passed_at class f.parts f.held f.stage) + passed_in fs

  abbrev pub inside_in : List GhostFrame → ℕ
  inside_in [] = 0
  inside_in (f ∷ fs) = if_on (is_object o f.this && not f.is_out) (occurs class f.parts) + inside_in fs

  -- the frame that runs is the only one that can be in an enter or a leave
  abbrev pub position_in : List GhostFrame → Position
  position_in [] = outside
  position_in (f ∷ fs) = when (is_object o f.this) (position_at class f.stage)

  abbrev pub role : List GhostFrame → Role
  role fs = record { held = held_in fs; passed = passed_in fs; inside = inside_in fs; position = position_in fs }

-- ---- rules

module _ (texts : List (List ℕ)) (names : Naming) (g : Codes) (p : CoreProgram) where
  -- the members that a class declares
  abbrev pub members_of_class : ClassId → List CoreWord
  members_of_class class = words_by (class_at (S texts names g p) class)

  -- whether a function of a class's part repairs or renews it
  abbrev pub is_mender : ClassId → Option ℕ → Bool
  is_mender class None = false
  is_mender class (Some f) = if_same (same f (repair_number g p class)) (same f (renew_number g p class))
    where
      if_same : Bool → Bool → Bool
      if_same true b = true
      if_same false b = b

  abbrev pub are_mending : ClassId → List Frame → Bool
  are_mending class fs = list_any (λ (f : Frame). is_mender class f.function) fs

  -- a part of an object, by itself: its counter is this; the object's class may derive from the part's
  abbrev pub alone_at : ℕ → ClassId → ClassId → ℕ → Alone
  alone_at o live class count = record {
    setting = W texts names g p;
    object = o;
    live = live;
    from = base_words (W texts names g p) class;
    count = count;
  }

  module _ (code : CoreCode) (o : ℕ) (live class : ClassId) where
    -- 28 times its size for a block, and what enter or leave do besides
    abbrev pub most_steps : ℕ
    most_steps = 28 * size_of code (length (members_of_class class)) + 16

    abbrev pub rules : Rules
    rules = record {
      single = code.single;
      from = base_words (W texts names g p) class;
      members = length (members_of_class class);
      kinds = map (λ (w : CoreWord). w.kind) (part_words names g p code class (members_of_class class));
      encoded = code.encoded (member_kinds names g p (members_of_class class));
      repaired = code.repaired (member_kinds names g p (members_of_class class));
      beyond = code.beyond (member_kinds names g p (members_of_class class));
      step = λ n. solo_step (alone_at o live class n);
      mending = are_mending class;
      enter_locked = frames.enter_locked names g p o class;
      enter_puts = frames.enter_puts names g p o class;
      leave_locked = frames.leave_locked names g p o class;
      leave_puts = frames.leave_puts names g p o class;
      leave_taken = frames.leave_taken names g p o class;
      leave_frees = frames.leave_frees names g p o class;
      few = 8;
      most = most_steps;
    }
