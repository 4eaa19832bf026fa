-- What the blocks of a part with check words do where they run by themselves.
use Rattle.std.specs.Prelude.{◌≡◌, ◌≢◌, ℕ, ◌+◌, ◌*◌, ◌^◌, ◌≤◌, true, false, List, ◌∷◌, [], map, length, take, Some}
use Rattle.std.specs.List.{All, range_with_len}
use Rattle.agxx_base.specs.declared.ids.ClassId.{ClassId}
use Rattle.agxx_base.specs.declared.kind.NumKind.{NumKind}
use Rattle.agxx_base.specs.declared.kind.NumKind.TheVariants as num
use Rattle.agxx_base.specs.declared.place.Place.{Place}
use Rattle.cxx_core.specs.CoreStmt.{CoreStmts}
use Rattle.step_machine.specs.Item.{Item, stmts_on}
use Rattle.step_machine.specs.Frame.{Frame}
use Rattle.hamming_gen.specs.Positions.{check_words, positions}
use Rattle.hamming_gen.specs.Hamming.{hamming}
use Rattle.codec_laws.specs.Values.{Fit}
use Rattle.codec_laws.specs.Solo.{Alone, dies, solo, solo_step}
use Rattle.codec_laws.specs.BlockRuns.{IsLaid, Comes, kinds_of}
use Rattle.hamming_blocks.specs.Blocks.{CheckedMember, Check, CheckedPart, kind_of, part_words, local_names, AllDiffer, repair_block, renew_block}

abbrev pub unsigned_kinds : CheckedPart → List NumKind
unsigned_kinds p = map kind_of p.members

abbrev pub member_kinds : CheckedPart → List NumKind
member_kinds p = map (λ (m : CheckedMember). m.member.kind) p.members

-- the words have their positions, as many check words as are enough, and no two locals have one name
pub record IsPart (p : CheckedPart) : Type 0 where
  pub members : map (λ (m : CheckedMember). m.position) p.members ≡ positions (length p.members)
  pub checks : map (λ (c : Check). c.position) p.checks
      ≡ map (λ j. 2 ^ j) (range_with_len 0 (check_words (length p.members)))
  pub locals : AllDiffer (local_names p)

-- run by itself a block halts in so many steps
pub record Halts (a : Alone) (f : Frame) (block : CoreStmts) (items : List Item) (ws : List ℕ)
    (most : ℕ) : Type 0 where
  pub steps : ℕ
  pub few : steps ≤ most
  pub halts : solo (solo_step a) steps (record f { items = stmts_on block items } ∷ []) ws ≡ dies

-- how many steps a block takes at most
abbrev pub most_steps : CheckedPart → ℕ
most_steps p = 28 * ((length p.members + 4) * (length p.checks + 4))

pub record HammingRun : Type 0 where
  -- what the members become fits them where none is a `bool`, whose word is checked as a wider one
  pub fits : (p : CheckedPart) (ws : List ℕ) → IsPart p → Fit (kinds_of (part_words p)) ws
      → All (λ k. k ≢ num.Bool) (member_kinds p)
      → Fit (member_kinds p) (take (length p.members) (hamming.repaired (unsigned_kinds p) ws))
  -- repair: from any words that fit and can be repaired, where what the members become fits them
  pub repairs : (a : Alone) (at : Place) (class : ClassId) (p : CheckedPart) (f : Frame) (items : List Item)
      (ws : List ℕ)
      → IsPart p → IsLaid a class (part_words p) → f.this ≡ Some a.object → Fit (kinds_of (part_words p)) ws
      → hamming.beyond (unsigned_kinds p) ws ≡ false
      → Fit (member_kinds p) (take (length p.members) (hamming.repaired (unsigned_kinds p) ws))
      → Comes a f (repair_block at class p) items ws (hamming.repaired (unsigned_kinds p) ws) (most_steps p)
  -- from words that can't be repaired it halts
  pub halts : (a : Alone) (at : Place) (class : ClassId) (p : CheckedPart) (f : Frame) (items : List Item) (ws : List ℕ)
      → IsPart p → IsLaid a class (part_words p) → f.this ≡ Some a.object → Fit (kinds_of (part_words p)) ws
      → hamming.beyond (unsigned_kinds p) ws ≡ true
      → Halts a f (repair_block at class p) items ws (most_steps p)
  -- renewal: what is encoded of the members
  pub renews : (a : Alone) (at : Place) (class : ClassId) (p : CheckedPart) (f : Frame) (items : List Item)
      (ws : List ℕ)
      → IsPart p → IsLaid a class (part_words p) → f.this ≡ Some a.object → Fit (kinds_of (part_words p)) ws
      → Comes a f (renew_block at class p) items ws
      (hamming.encoded (unsigned_kinds p) (take (length p.members) ws)) (most_steps p)
