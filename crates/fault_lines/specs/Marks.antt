-- Which parts have been hit, as a set: a part is hit where flips have inverted bits of it since somebody was last inside.
use Rattle.std.specs.Prelude.{◌≡◌, ℕ, nat_lt, Bool, true, false, not, ◌&&◌, ◌||◌, List, [], ◌∷◌, Option, Some, None, if◌then◌else◌}
use Rattle.agxx_base.specs.declared.ids.ClassId.{ClassId}
use Rattle.cxx_arith.specs.Kinds.{width}
use Rattle.flip_plan.specs.declared.flip.PlannedFlip.{PlannedFlip}
use Rattle.step_machine.specs.Setting.{Setting, class_of_function, is_of}
use Rattle.step_machine.specs.Frame.{is_object}
use Rattle.step_machine.specs.Turn.{Thread, thread_at}
use Rattle.step_machine.specs.Machine.{Machine, next}
use Rattle.step_machine.specs.Total.{Total, reading, same}
use Rattle.step_machine.specs.Flips.{flipped_of}
use Rattle.fault_model.specs.Parts.{PartWord}
use Rattle.fault_model.specs.Inside.{is_inside}
use Rattle.fault_model.specs.Admissible.{Hit, is_admissible, part_word_of}
use Rattle.fault_model.specs.Progress.{Progress, with_flip, with_turn}

abbrev pub Marks : Type 0
Marks = ℕ → ClassId → Bool

abbrev pub is_hit : List Hit → Bool
is_hit [] = false
is_hit (hit ∷ hits) = true

-- The set tells the hit parts, and nobody is inside one.
pub record Tells (marks : Marks) (p : Progress) : Type 0 where
  pub hits : (o : ℕ) (class : ClassId) → marks o class ≡ is_hit (p.hits o class)
  pub out : (o : ℕ) (class : ClassId) → is_inside p.total o class ≡ true → p.hits o class ≡ []

abbrev pub is_part : ℕ → ClassId → ℕ → ClassId → Bool
is_part o class p k = same p o && same k.0 class.0

abbrev pub no_marks : Marks
no_marks o class = false

abbrev pub with_mark : ℕ → ClassId → Marks → Marks
with_mark o class marks p k = is_part o class p k || marks p k

-- ---- flips

-- on a word of a part, if it is one: where nobody is inside
abbrev pub marked_by : Total → PlannedFlip → Option PartWord → Marks → Marks
marked_by m f None marks = marks
marked_by m f (Some w) marks = if is_inside m f.object.0 w.class then marks else with_mark f.object.0 w.class marks

-- by whether a bit was inverted
abbrev pub marked : Bool → Total → PlannedFlip → Marks → Marks
marked false m f marks = marks
marked true m f marks = marked_by m f (part_word_of m f) marks

abbrev pub is_open_by : Total → PlannedFlip → Option PartWord → Marks → Bool
is_open_by m f None marks = false
is_open_by m f (Some w) marks =
    nat_lt f.bit (width w.word.kind) && (not (is_inside m f.object.0 w.class) && not (marks f.object.0 w.class))

-- whether a flip is admissible, by the set
abbrev pub is_open : Total → PlannedFlip → Marks → Bool
is_open m f marks = is_open_by m f (part_word_of m f) marks

-- ---- turns

-- without the parts of an object of a class, those above it included
abbrev pub cleared : Setting → Option ℕ → Option ClassId → Marks → Marks
cleared s this own marks p k = if is_object p this && is_of s own (Some k) then false else marks p k

-- without those that the frame that runs is inside of
abbrev pub cleared_by : Setting → Thread → Marks → Marks
cleared_by s [] marks = marks
cleared_by s (f ∷ fs) marks = cleared s f.this (class_of_function s f.function) marks

pub record SetsTellHits : Type 0 where
  pub admissible : (marks : Marks) (p : Progress) (f : PlannedFlip) → Tells marks p
      → is_admissible p.total p.hits f ≡ is_open p.total f marks
  pub flip : (marks : Marks) (p : Progress) (f : PlannedFlip) → Tells marks p
      → Tells (marked (flipped_of f.object.0 f.word f.bit p.total).1 p.total f marks) (with_flip f p)
  pub turn : (marks : Marks) (p : Progress) (m : Machine) (t : ℕ) → p.total ≡ reading m → Tells marks p
      → Tells (cleared_by m.setting (thread_at (next m t).0.threads t) marks) (with_turn t p)
