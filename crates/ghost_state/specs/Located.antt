-- Where the words and mutexes of a class stand in the objects of the classes derived from it.
use Rattle.std.specs.Prelude.{◌≡◌, ◌<◌, ℕ, ◌+◌, List, length, Some, slice_get}
use Rattle.std.specs.List.{Contains}
use Rattle.agxx_base.specs.declared.ids.ClassId.{ClassId}
use Rattle.agxx_base.specs.declared.kind.NumKind.{NumKind}
use Rattle.cxx_core.specs.CoreProgram.{CoreProgram}
use Rattle.step_machine.specs.Setting.{class_at, word_number, mutex_number}
use Rattle.ghost_state.specs.CoreCodes.{CoreCode, Codes}
use Rattle.ghost_state.specs.Names.{Naming}
use Rattle.ghost_state.specs.ProtectedCore.{line_of}
use Rattle.ghost_state.specs.Ghost.{Ghost, cells_by, held_in, source_words, woven_words, woven_mutexes}
use Rattle.ghost_state.specs.Deeds.{S, W, base_words, base_mutexes, mutexes_by, part_lock}
use Rattle.ghost_state.specs.Roles.{members_of_class}

module _ (texts : List (List ℕ)) (names : Naming) (g : Codes) (p : CoreProgram) where
  -- a live object is of a class or of one derived from it
  abbrev pub IsOf : Ghost → ℕ → ClassId → Type 0
  IsOf x o class = (own : ClassId) × (x.class o ≡ Some own) × Contains (line_of p (Some own)) class

  pub record MemberNumber (class : ClassId) (name : ℕ) : Type 0 where
    pub place : ℕ
    pub within : place < length (members_of_class texts names g p class)
    pub in_source : word_number (S texts names g p) class name ≡ base_words (S texts names g p) class + place
    pub in_woven : word_number (W texts names g p) class name ≡ base_words (W texts names g p) class + place

  abbrev pub cells_of : Ghost → ℕ → ClassId → List ℕ
  cells_of x o class = cells_by (g class) (x.values o class) (x.part o class)

  pub record AreLocated (x : Ghost) : Type 0 where
    pub lock_number : (class : ClassId) (code : CoreCode) → g class ≡ Some code
        → mutex_number (W texts names g p) class (names.lock class)
        ≡ base_mutexes (W texts names g p) class + length (mutexes_by (class_at (S texts names g p) class))
    pub counter_number : (o : ℕ) (class : ClassId) (code : CoreCode) → g class ≡ Some code
        → word_number (W texts names g p) class (names.count class)
        ≡ base_words (W texts names g p) class + length (x.part o class).words
    pub lock_holder : (o : ℕ) (class : ClassId) (code : CoreCode) → g class ≡ Some code → IsOf x o class
        → held_in x.shared (woven_mutexes p x g) (part_lock texts names g p o class) ≡ (x.part o class).lock
    -- a member stands at the same place among the words of its class in both
    pub member_number : (class : ClassId) (name : ℕ) (k : NumKind)
        → Contains (members_of_class texts names g p class) (record { name = name; kind = k }) → MemberNumber class name
    pub source_word : (o : ℕ) (class : ClassId) → IsOf x o class → (i : ℕ) → i < length (x.values o class)
        → slice_get (source_words p x o) (base_words (S texts names g p) class + i) ≡ slice_get (x.values o class) i
    pub woven_word : (o : ℕ) (class : ClassId) → IsOf x o class → (i : ℕ) → i < length (cells_of x o class)
        → slice_get (woven_words p x g o) (base_words (W texts names g p) class + i) ≡ slice_get (cells_of x o class) i
