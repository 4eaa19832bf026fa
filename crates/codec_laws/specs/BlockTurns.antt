-- What a step of a block does by itself it does among the other threads, and nothing else: its frame goes on, and at most
-- one word of its part changes.
use Rattle.std.specs.Prelude.{◌≡◌, ℕ, ◌+◌, ◌<◌, List, [], ◌∷◌, ◌++◌, length, Some, slice_get, slice_set}
use Rattle.agxx_base.specs.declared.ids.ClassId.{ClassId}
use Rattle.agxx_base.specs.declared.place.Place.{Place}
use Rattle.cxx_core.specs.CoreProgram.{CoreWord}
use Rattle.step_machine.specs.declared.outcome.State.TheVariants as state
use Rattle.step_machine.specs.Item.{Item}
use Rattle.step_machine.specs.Frame.{Frame}
use Rattle.step_machine.specs.Effects as on
use Rattle.step_machine.specs.Turn.{Thread}
use Rattle.step_machine.specs.Total.{Total, upd, after_of, next_of}
use Rattle.codec_laws.specs.Solo.{Alone, goes, solo_step}
use Rattle.codec_laws.specs.Blocks.{Copied, part_words, repair_block, renew_block}
use Rattle.codec_laws.specs.BlockRuns.{IsLaid}
use Rattle.codec_laws.specs.OfPart.{PartItem, PartItems, PartStmts, IsWord}

-- the words of the part as they stand in a running state
pub record StandsIn (a : Alone) (m : Total) (ws : List ℕ) : Type 0 where
  pub setting : m.setting ≡ a.setting
  pub running : m.state ≡ state.Running
  pub live : m.class a.object ≡ Some a.live
  pub words : (i bits : ℕ) → slice_get ws i ≡ Some bits → m.word a.object (a.from + i) ≡ Some bits

abbrev pub with_frames : ℕ → Thread → Total → Total
with_frames t fs m = record m { frames = upd m.frames t fs }

-- a turn of thread t, below whose frames others stand
pub data BlockTurn (a : Alone) (m : Total) (t : ℕ) (rest : Thread) (ws : List ℕ) (after : List Frame)
    (ws_after : List ℕ) : Type 0 where
  reads_only : (next_of m t).0 ≡ after_of t on.went (with_frames t (after ++ rest) m) → ws_after ≡ ws
      → BlockTurn a m t rest ws after ws_after
  stores_one : (i bits : ℕ) → i < length ws
      → (next_of m t).0 ≡ after_of t (on.changed (on.store a.object (a.from + i) bits))
      (with_frames t (after ++ rest) m)
      → ws_after ≡ slice_set ws i bits → BlockTurn a m t rest ws after ws_after

-- a frame whose first items are of the part, before these
pub record IsLocal (Names : ClassId → ℕ → Type 0) (f : Frame) (is : List Item) (after : List Frame) : Type 0 where
  pub frame : Frame
  pub only : after ≡ frame ∷ []
  pub first : List Item
  pub items : frame.items ≡ first ++ is
  pub of_part : PartItems Names first
  pub this : frame.this ≡ f.this

pub record BlocksTurn : Type 0 where
  -- the blocks of two copies name nothing but the words of their part
  pub repair_is_local : (at : Place) (class : ClassId) (ms : List Copied)
      → PartStmts (IsWord class (part_words ms)) (repair_block at class ms)
  pub renew_is_local : (at : Place) (class : ClassId) (ms : List Copied)
      → PartStmts (IsWord class (part_words ms)) (renew_block at class ms)
  -- a step of what names nothing else
  pub turns : (a : Alone) (class : ClassId) (words : List CoreWord) (m : Total) (t : ℕ) (f : Frame) (i : Item)
      (is : List Item) (rest : Thread) (ws : List ℕ)
      (after : List Frame) (ws_after : List ℕ)
      → IsLaid a class words → length ws ≡ length words → StandsIn a m ws → f.this ≡ Some a.object
      → PartItem (IsWord class words) i
      → m.frames t ≡ record f { items = i ∷ is } ∷ rest → solo_step a (record f { items = i ∷ is } ∷ []) ws
      ≡ goes after ws_after
      → IsLocal (IsWord class words) f is after × BlockTurn a m t rest ws after ws_after
