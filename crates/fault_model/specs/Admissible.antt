-- Which flips are admissible. A flip is where its object is live, its word is a word of a part of the object, its bit is below
-- the word's width, nobody is inside this part, and it goes with the flips that have inverted bits of this part of this object
-- since somebody was last inside. A single part goes with none before.
use Rattle.std.specs.Prelude.{ℕ, nat_lt, nat_eq, Bool, true, false, not, ◌&&◌, List, [], ◌∷◌, Option, Some, None, if◌then◌else◌}
use Rattle.std.specs.List.{list_any}
use Rattle.agxx_base.specs.declared.ids.ClassId.{ClassId}
use Rattle.cxx_arith.specs.Kinds.{width}
use Rattle.flip_plan.specs.declared.flip.PlannedFlip.{PlannedFlip}
use Rattle.step_machine.specs.Total.{Total, same}
use Rattle.fault_model.specs.Parts.{PartWord, part_word_at, is_single}
use Rattle.fault_model.specs.Inside.{is_inside}

-- ---- the flips since somebody was last inside

-- an inverted bit, by the number of its word in the object
pub record Hit : Type 0 where
  pub word : ℕ
  pub bit : ℕ

-- of each part of each object those since somebody was last inside it, the last first
abbrev pub Hits : Type 0
Hits = ℕ → ClassId → List Hit

abbrev pub no_hits : Hits
no_hits o class = []

abbrev pub with_hit : ℕ → ClassId → Hit → Hits → Hits
with_hit o class hit hits p k = if same p o && same k.0 class.0 then hit ∷ hits p k else hits p k

-- where somebody is inside, none is left
abbrev pub while_out : Total → Hits → Hits
while_out m hits o class = if is_inside m o class then [] else hits o class

-- ---- admissible

-- at most one flip at each bit place, in a single part at most one in all
abbrev pub goes_with : Bool → List Hit → ℕ → Bool
goes_with true [] bit = true
goes_with true (hit ∷ hits) bit = false
goes_with false hits bit = not (list_any (λ (hit : Hit). nat_eq hit.bit bit) hits)

abbrev pub is_admissible_at : Total → Hits → ℕ → ℕ → Option PartWord → Bool
is_admissible_at m hits o bit None = false
is_admissible_at m hits o bit (Some p) =
    nat_lt bit (width p.word.kind)
    && (not (is_inside m o p.class) && goes_with (is_single m.setting p.class) (hits o p.class) bit)

-- the word of a part that a flip falls on, if it is one; a destroyed object has none
abbrev pub part_word_of : Total → PlannedFlip → Option PartWord
part_word_of m f = part_word_at m.setting (m.class f.object.0) f.word

abbrev pub is_admissible : Total → Hits → PlannedFlip → Bool
is_admissible m hits f = is_admissible_at m hits f.object.0 f.bit (part_word_of m f)

-- ---- what a flip adds

abbrev pub hit_of : PlannedFlip → Hit
hit_of f = record { word = f.word; bit = f.bit }

abbrev pub hits_by : PlannedFlip → Option PartWord → Hits → Hits
hits_by f None hits = hits
hits_by f (Some p) hits = with_hit f.object.0 p.class (hit_of f) hits

-- where it inverted a bit of a part; while somebody is inside, it doesn't count
abbrev pub hits_after : Bool → Total → PlannedFlip → Hits → Hits
hits_after false m f hits = hits
hits_after true m f hits = while_out m (hits_by f (part_word_of m f) hits)
