-- The state from which both machines' states are read: the source's objects and the ghost frames, and what the parts hold.
use Rattle.std.specs.Prelude.{ℕ, List, [], ◌∷◌, ◌++◌, reverse, Option, Some, None, slice_get}
use Rattle.std.specs.List.{flat_map}
use Rattle.agxx_base.specs.declared.ids.ClassId.{ClassId}
use Rattle.cxx_core.specs.CoreProgram.{CoreProgram}
use Rattle.step_machine.specs.declared.datum.Datum.{Datum}
use Rattle.step_machine.specs.declared.outcome.State.{State}
use Rattle.step_machine.specs.Setting.{Setting}
use Rattle.step_machine.specs.Effects as on
use Rattle.step_machine.specs.Effects.{Lock}
use Rattle.step_machine.specs.World.{holder_in}
use Rattle.step_machine.specs.Total.{Total}
use Rattle.fault_model.specs.Admissible.{Hits}
use Rattle.part_protocol.specs.Part.{Part}
use Rattle.ghost_state.specs.CoreCodes.{CoreCode, Codes}
use Rattle.ghost_state.specs.Names.{Naming}
use Rattle.ghost_state.specs.ProtectedCore.{line_of, protected_core}
use Rattle.ghost_state.specs.GhostFrames.{GhostFrame, source_thread, woven_thread}

pub record Ghost : Type 0 where
  pub frames : ℕ → List GhostFrame
  pub started : ℕ
  pub made : ℕ
  -- of a live object
  pub class : ℕ → Option ClassId
  pub variable : ℕ → Datum
  -- the holders of the program's own mutexes: of a global one by its name, of those that a class declares in an object
  pub shared : ℕ → Option ℕ
  pub mutexes : ℕ → ClassId → List (Option ℕ)
  pub output : List ℕ
  pub state : State
  -- what the members that a class declares hold in the source, by object
  pub values : ℕ → ClassId → List ℕ
  pub part : ℕ → ClassId → Part
  -- the flips of a part since somebody was inside, the last first
  pub hits : Hits
  -- the part that can't be repaired any more, if there is one
  pub broken : Option (ℕ × ClassId)

-- what an object has, of what each class declares; the topmost class's first
abbrev pub laid_out : {A : Type 0} → CoreProgram → (ClassId → List A) → Option ClassId → List A
laid_out p of_class class = flat_map of_class (reverse (line_of p class))

-- the words of a part as they stand in the object, the counter last
abbrev pub cells : Part → List ℕ
cells part = part.words ++ part.count ∷ []

abbrev pub cells_by : Option CoreCode → List ℕ → Part → List ℕ
cells_by None values part = values
cells_by (Some code) values part = cells part

abbrev pub holders_by : Option CoreCode → List (Option ℕ) → Part → List (Option ℕ)
holders_by None holders part = holders
holders_by (Some code) holders part = holders ++ part.lock ∷ []

-- a holder, where an object has these
abbrev pub held_in : (ℕ → Option ℕ) → (ℕ → List (Option ℕ)) → Lock → Option ℕ
held_in shared of_object (on.shared name) = shared name
held_in shared of_object (on.inside o m) = holder_in (slice_get (of_object o) m)

module _ (p : CoreProgram) (x : Ghost) where
  abbrev pub source_words : ℕ → List ℕ
  source_words o = laid_out p (x.values o) (x.class o)

  abbrev pub source_mutexes : ℕ → List (Option ℕ)
  source_mutexes o = laid_out p (x.mutexes o) (x.class o)

  module _ (g : Codes) where
    abbrev pub woven_words : ℕ → List ℕ
    woven_words o = laid_out p (λ class. cells_by (g class) (x.values o class) (x.part o class)) (x.class o)

    abbrev pub woven_mutexes : ℕ → List (Option ℕ)
    woven_mutexes o = laid_out p (λ class. holders_by (g class) (x.mutexes o class) (x.part o class)) (x.class o)

-- ---- both states, with one table of names

module _ (texts : List (List ℕ)) (names : Naming) (g : Codes) (p : CoreProgram) where
  abbrev pub source_setting : Setting
  source_setting = record { names = texts; program = p }

  abbrev pub woven_setting : Setting
  woven_setting = record { names = texts; program = protected_core names g p }

  abbrev pub source_state : Ghost → Total
  source_state x = record {
    setting = source_setting;
    word = λ o w. slice_get (source_words p x o) w;
    class = x.class;
    variable = x.variable;
    holder = held_in x.shared (source_mutexes p x);
    made = x.made;
    started = x.started;
    frames = λ t. source_thread (x.frames t);
    output = x.output;
    state = x.state;
  }

  abbrev pub woven_state : Ghost → Total
  woven_state x = record {
    setting = woven_setting;
    word = λ o w. slice_get (woven_words p x g o) w;
    class = x.class;
    variable = x.variable;
    holder = held_in x.shared (woven_mutexes p x g);
    made = x.made;
    started = x.started;
    frames = λ t. woven_thread names g p (x.frames t);
    output = x.output;
    state = x.state;
  }
