-- What the blocks of two copies do where they run by themselves.
use Rattle.std.specs.Prelude.{◌≡◌, ℕ, ◌+◌, ◌*◌, ◌≤◌, true, List, [], ◌∷◌, map, length, take, Some, slice_get}
use Rattle.agxx_base.specs.declared.ids.ClassId.{ClassId}
use Rattle.agxx_base.specs.declared.kind.NumKind.{NumKind}
use Rattle.agxx_base.specs.declared.place.Place.{Place}
use Rattle.cxx_core.specs.CoreProgram.{CoreWord}
use Rattle.cxx_core.specs.CoreStmt.{CoreStmts}
use Rattle.step_machine.specs.declared.datum.Datum.{Datum}
use Rattle.step_machine.specs.Setting.{is_of, word_number}
use Rattle.step_machine.specs.Item.{Item, stmts_on}
use Rattle.step_machine.specs.Frame.{Frame}
use Rattle.codec.specs.Copies.{copies}
use Rattle.codec_laws.specs.Values.{Fit}
use Rattle.codec_laws.specs.Solo.{Alone, goes, solo, solo_step}
use Rattle.codec_laws.specs.Blocks.{Copied, kind_of, part_words, repair_block, renew_block}

abbrev pub kinds_of : List CoreWord → List NumKind
kinds_of words = map (λ (w : CoreWord). w.kind) words

-- a part's words stand in its object one behind another
pub record IsLaid (a : Alone) (class : ClassId) (words : List CoreWord) : Type 0 where
  pub is_of : is_of a.setting (Some a.live) (Some class) ≡ true
  pub numbers : (i : ℕ) (w : CoreWord) → slice_get words i ≡ Some w → word_number a.setting class w.name ≡ a.from + i

-- a frame of some function on the object, whose items these are
abbrev pub with_items : Frame → List (ℕ × Datum) → List Item → Frame
with_items f locals items = record f { locals = locals; items = items }

-- run by itself a block comes to its end in so many steps: its items are gone, its locals are there, and the words are these
pub record Comes (a : Alone) (f : Frame) (block : CoreStmts) (items : List Item) (ws after : List ℕ)
    (most : ℕ) : Type 0 where
  pub steps : ℕ
  pub few : steps ≤ most
  pub locals : List (ℕ × Datum)
  pub comes : solo (solo_step a) steps (record f { items = stmts_on block items } ∷ []) ws
      ≡ goes (record f { locals = locals; items = items } ∷ []) after

-- the unsigned kinds of the members
abbrev pub unsigned_kinds : List Copied → List NumKind
unsigned_kinds ms = map kind_of ms

abbrev pub member_kinds : List Copied → List NumKind
member_kinds ms = map (λ (m : Copied). m.member.kind) ms

pub record CopiesRun : Type 0 where
  -- repair: from any words that fit, where what the members become fits them. It does where their kinds aren't `bool`, whose
  -- copies are wider than the member
  pub repairs : (a : Alone) (at : Place) (class : ClassId) (ms : List Copied) (f : Frame) (items : List Item)
      (ws : List ℕ)
      → IsLaid a class (part_words ms) → f.this ≡ Some a.object → Fit (kinds_of (part_words ms)) ws
      → Fit (member_kinds ms) (take (length ms) (copies.repaired (unsigned_kinds ms) ws))
      → Comes a f (repair_block at class ms) items ws (copies.repaired (unsigned_kinds ms) ws)
      (28 * ((length ms + 4) * (2 + 4)))
  -- renewal: what is encoded of the members
  pub renews : (a : Alone) (at : Place) (class : ClassId) (ms : List Copied) (f : Frame) (items : List Item)
      (ws : List ℕ)
      → IsLaid a class (part_words ms) → f.this ≡ Some a.object → Fit (kinds_of (part_words ms)) ws
      → Comes a f (renew_block at class ms) items ws (copies.encoded (unsigned_kinds ms) (take (length ms) ws))
      (28 * ((length ms + 4) * (2 + 4)))
