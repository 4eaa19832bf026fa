-- What a word of a live object holds fits in the word's width, whatever turns are taken and whatever flips fall.
use Rattle.std.specs.Prelude.{◌≡◌, ℕ, ◌^◌, ◌<◌, nat_eq, List, [], ◌∷◌, Option, Some, None, option_map, slice_get}
use Rattle.std.specs.List.{find}
use Rattle.agxx_base.specs.declared.ids.ClassId.{ClassId}
use Rattle.agxx_base.specs.declared.kind.NumKind.{NumKind}
use Rattle.cxx_tree.specs.ProgramTree.{ProgramTree}
use Rattle.cxx_core.specs.CoreProgram.{CoreWord, CoreClass, CoreProgram}
use Rattle.cxx_core.specs.ElaboratedProgram.{core_program}
use Rattle.step_machine.specs.Setting.{Setting}
use Rattle.step_machine.specs.World.{word_at, class_at}
use Rattle.step_machine.specs.Machine.{Machine, next}
use Rattle.step_machine.specs.Start.{start}
use Rattle.step_machine.specs.Total.{Total, reading, next_of}
use Rattle.step_machine.specs.Flips.{width_of, flipped, flipped_of}
use Rattle.machine_laws.specs.Locates.{HasBasesBefore}
use Rattle.machine_laws.specs.Layouts.{setting_of}
use Rattle.machine_laws.specs.Members.{OfProgram, OfFrames}

-- ---- kinds

abbrev pub kind_in : ℕ → Option CoreClass → Option NumKind
kind_in name None = None
kind_in name (Some class) = option_map (λ (w : CoreWord). w.kind) (find (λ (w : CoreWord). nat_eq w.name name) class.words)

-- the kind of the first word of this name that a class itself declares
abbrev pub declared_kind : CoreProgram → ClassId → ℕ → Option NumKind
declared_kind program class name = kind_in name (slice_get program.classes class.0)

-- a member has this kind
abbrev pub IsDeclared : CoreProgram → ClassId → ℕ → NumKind → Type 0
IsDeclared program class name k = declared_kind program class name ≡ Some k

-- each member that a program names is one that its class declares, with the kind that stands there
abbrev pub HasDeclaredKinds : CoreProgram → Type 0
HasDeclaredKinds program = OfProgram (IsDeclared program) program

-- ---- widths

abbrev pub FitWords : Setting → (ℕ → ℕ → Option ℕ) → (ℕ → Option ClassId) → Type 0
FitWords s word class_of = (o w bits : ℕ) (class : ClassId) → class_of o ≡ Some class → word o w ≡ Some bits → bits < 2 ^ width_of s class w

-- each word of a live object is below 2 to its width
abbrev pub HasWidths : Machine → Type 0
HasWidths m = FitWords m.setting (word_at m.world) (class_at m.world)

-- what turns and flips keep, on the state as functions
pub record IsFit (m : Total) : Type 0 where
  pub bases : HasBasesBefore m.setting.program
  pub kinds : HasDeclaredKinds m.setting.program
  -- no frame names other members
  pub frames : (t : ℕ) → OfFrames (IsDeclared m.setting.program) (m.frames t)
  pub words : FitWords m.setting m.word m.class

-- ---- runs

pub data Event : Type 0 where
  -- a turn of a thread
  turn : ℕ → Event
  -- a flip of an object's word's bit
  flip : ℕ → ℕ → ℕ → Event

abbrev pub after_event : Machine → Event → Machine
after_event m (turn t) = (next m t).0
after_event m (flip o w bit) = (flipped o w bit m).0

abbrev pub after_events : Machine → List Event → Machine
after_events m [] = m
after_events m (e ∷ es) = after_events (after_event m e) es

pub record WidthsAreKept : Type 0 where
  -- every program names its members so
  pub of_programs : (names : List (List ℕ)) (q : ProgramTree) → HasDeclaredKinds (core_program names q)
  pub of_start : (s : Setting) → HasBasesBefore s.program → HasDeclaredKinds s.program → IsFit (reading (start s))
  pub of_next : (m : Total) (t : ℕ) → IsFit m → IsFit (next_of m t).0
  pub of_flip : (m : Total) (o w bit : ℕ) → IsFit m → IsFit (flipped_of o w bit m).0
  -- in every run
  pub of_runs : (s : Setting) → HasBasesBefore s.program → HasDeclaredKinds s.program → (events : List Event) → HasWidths (after_events (start s) events)
  -- of every program
  pub of_program_runs : (names : List (List ℕ)) (q : ProgramTree) (events : List Event) → HasWidths (after_events (start (setting_of names q)) events)
