-- What enters and leaves a part does the same whatever the words of the part are, while somebody is inside. So other
-- threads may store to these words meanwhile: it would not do to say that the whole comes to the same for all words.
use Rattle.std.specs.Prelude.{◌≡◌, ℕ, zero, suc, ◌+◌, ◌-◌, ◌%◌, ◌^◌, ◌<◌, true, List, [], ◌∷◌, length, Some}
use Rattle.agxx_base.specs.declared.ids.ClassId.{ClassId}
use Rattle.agxx_base.specs.declared.kind.NumKind.TheVariants as kind
use Rattle.agxx_base.specs.declared.place.Place.{Place}
use Rattle.cxx_core.specs.CoreExpr.{CoreCallee}
use Rattle.step_machine.specs.declared.datum.Datum.{Datum}
use Rattle.step_machine.specs.declared.datum.Datum.TheVariants as datum
use Rattle.step_machine.specs.Setting.{is_of, word_number}
use Rattle.step_machine.specs.Item as it
use Rattle.step_machine.specs.Item.{Item, stmts_on}
use Rattle.step_machine.specs.Frame.{Frame, pushed}
use Rattle.codec_laws.specs.Solo.{Alone, goes, strays, solo_step}
use Rattle.steady_laws.specs.EntryBlocks.{count, free_lock, enter_held, leave_held, leave_counted}

-- by a part of so many words, frames come to others in so many steps, each of which has the same next frames whatever
-- the words are, and leaves them as they are
abbrev pub Steady : Alone → ℕ → ℕ → List Frame → List Frame → Type 0
Steady a words zero frames target = frames ≡ target
Steady a words (suc k) frames target =
    (next : List Frame) × ((ws : List ℕ) → length ws ≡ words → solo_step a frames ws ≡ goes next ws)
    × Steady a words k next target

-- no step of a part by itself leads on from these frames
abbrev pub IsStuck : Alone → ℕ → List Frame → Type 0
IsStuck a words frames = (ws : List ℕ) → length ws ≡ words → solo_step a frames ws ≡ strays

-- the counter stands in its object behind the part's words, somebody is counted, and the count is one of 32 bits
pub record IsCounted (a : Alone) (class : ClassId) (counter words : ℕ) : Type 0 where
  pub is_of : is_of a.setting (Some a.live) (Some class) ≡ true
  pub number : word_number a.setting class counter ≡ a.from + words
  pub above : 0 < a.count
  pub small : a.count < 2 ^ 32

-- a frame that has these items to do
abbrev pub to_do : List Item → Frame → List Frame
to_do items f = record f { items = items } ∷ []

abbrev pub a_count : ℕ → Datum
a_count n = datum.Number (record { kind = kind.U32; bits = n })

module _ (a : Alone) (at : Place) (class : ClassId) (counter mutex words : ℕ) (called : CoreCallee) (f : Frame)
    (items : List Item) where
  -- enter comes from its lock to the store of the counter, which is one more
  abbrev pub EnterIsSteady : Type 0
  EnterIsSteady =
      Steady a words 11 (to_do (stmts_on (enter_held at class counter mutex called) items) f)
      (to_do (it.put (count at class counter mutex) ∷ stmts_on (free_lock at class counter mutex) items)
      (pushed (a_count ((a.count + 1) % 2 ^ 32)) f))

  -- leave comes from its lock to the store of the counter, which is one less
  abbrev pub LeaveIsSteady : Type 0
  LeaveIsSteady =
      Steady a words 5 (to_do (stmts_on (leave_held at class counter mutex called) items) f)
      (to_do (it.put (count at class counter mutex) ∷ stmts_on (leave_counted at class counter mutex called) items)
      (pushed (a_count (a.count - 1)) f))

  -- and from there, if others are still counted, to the release of its lock
  abbrev pub RestIsSteady : Type 0
  RestIsSteady =
      Steady a words 6 (to_do (stmts_on (leave_counted at class counter mutex called) items) f)
      (to_do (stmts_on (free_lock at class counter mutex) items) f)

-- by a frame of the object: a part by itself has no counter to store and no lock to release, so it comes no further
pub record BlocksAreSteady : Type 0 where
  pub enter : (a : Alone) (at : Place) (class : ClassId) (counter mutex words : ℕ) (called : CoreCallee) (f : Frame)
      (items : List Item)
      → IsCounted a class counter words → f.this ≡ Some a.object
      → EnterIsSteady a at class counter mutex words called f items
  pub leave : (a : Alone) (at : Place) (class : ClassId) (counter mutex words : ℕ) (called : CoreCallee) (f : Frame)
      (items : List Item)
      → IsCounted a class counter words → f.this ≡ Some a.object
      → LeaveIsSteady a at class counter mutex words called f items
  pub rest : (a : Alone) (at : Place) (class : ClassId) (counter mutex words : ℕ) (called : CoreCallee) (f : Frame)
      (items : List Item)
      → IsCounted a class counter words → f.this ≡ Some a.object
      → RestIsSteady a at class counter mutex words called f items
  pub store_is_stuck : (a : Alone) (at : Place) (class : ClassId) (counter mutex words : ℕ) (f : Frame)
      (items : List Item)
      → IsCounted a class counter words → f.this ≡ Some a.object
      → IsStuck a words (to_do (it.put (count at class counter mutex) ∷ items) f)
  pub release_is_stuck : (a : Alone) (at : Place) (class : ClassId) (counter mutex words : ℕ) (f : Frame)
      (items : List Item)
      → IsStuck a words (to_do (stmts_on (free_lock at class counter mutex) items) f)
