-- What it comes to where some lines alone are gone through, because the others don't fall.
use Rattle.std.specs.Prelude.{◌≡◌, ◌<◌, ◌≤◌, ◌⊎◌, ℕ, nat_eq, nat_lt, Bool, true, false, List, [], ◌∷◌, ◌++◌, map, Some}
use Rattle.agxx_base.specs.declared.ids.ClassId.{ClassId}
use Rattle.cxx_arith.specs.Kinds.{width}
use Rattle.flip_plan.specs.declared.flip.PlannedFlip.{PlannedFlip}
use Rattle.step_machine.specs.Total.{Total}
use Rattle.step_machine.specs.Flips.{flipped_of}
use Rattle.fault_model.specs.Parts.{PartWord}
use Rattle.fault_model.specs.PlanLines.{line_of}
use Rattle.fault_model.specs.Admissible.{Hits, is_admissible, part_word_of}
use Rattle.fault_model.specs.Progress.{Progress, falls, with_flip, after_lines}
use Rattle.fault_lines.specs.Lists.{IsIn, AreInOrder}

-- ---- one line after the other

-- where a line falls, the flip; where it doesn't, it stays behind those that stay
abbrev pub through : Bool → PlannedFlip → Progress → Progress
through true f p = with_flip f p
through false f p = record p { ahead = p.ahead ++ line_of f ∷ [] }

abbrev pub with_one : ℕ → PlannedFlip → Progress → Progress
with_one i f p = through (falls i p (line_of f)) f p

abbrev pub with_each : ℕ → List PlannedFlip → Progress → Progress
with_each i [] p = p
with_each i (f ∷ fs) p = with_each i fs (with_one i f p)

abbrev pub none_ahead : Progress → Progress
none_ahead p = record p { ahead = [] }

-- ---- lines that don't fall

-- a line that waits, and isn't admissible
abbrev pub IsBlocked : Total → Hits → PlannedFlip → Type 0
IsBlocked m hits f = (f.waits ≡ true) × (is_admissible m hits f ≡ false)

-- a line whose moment is another one, or is to come
abbrev pub IsNotDue : ℕ → PlannedFlip → Type 0
IsNotDue i f = ((f.waits ≡ false) × (nat_eq f.moment i ≡ false)) ⊎ ((f.waits ≡ true) × (i < f.moment))

-- A flip on a bit of a word of a part of this class.
pub record IsOn (m : Total) (class : ClassId) (f : PlannedFlip) : Type 0 where
  pub word : PartWord
  pub is_word : part_word_of m f ≡ Some word
  pub of_class : word.class ≡ class
  pub is_bit : nat_lt f.bit (width word.word.kind) ≡ true

-- where a flip is admissible, its word is there, and so its bit is inverted
abbrev pub Inverts : Total → PlannedFlip → Type 0
Inverts m f = (hits : Hits) → is_admissible m hits f ≡ true → (flipped_of f.object.0 f.word f.bit m).1 ≡ true

-- Another line, before this one, waits for a flip in the same part of the same object.
pub record IsCovered (i : ℕ) (m : Total) (on : List PlannedFlip) (f : PlannedFlip) : Type 0 where
  pub waits : f.waits ≡ true
  pub first : PlannedFlip
  pub is_in : IsIn on first
  pub first_waits : first.waits ≡ true
  pub in_force : first.moment ≤ i
  pub before : first.number < f.number
  pub inverts : Inverts m first
  pub object : first.object.0 ≡ f.object.0
  pub class : ClassId
  pub first_on : IsOn m class first
  pub this_on : IsOn m class f

abbrev pub IsPassed : ℕ → Progress → List PlannedFlip → PlannedFlip → Type 0
IsPassed i p on f = IsNotDue i f ⊎ (IsBlocked p.total p.hits f ⊎ IsCovered i p.total on f)

-- Some of the lines ahead are gone through at a moment, and the others don't fall.
pub record AreEnough (i : ℕ) (p : Progress) (ahead on : List PlannedFlip) : Type 0 where
  pub ahead_order : AreInOrder ahead
  pub on_order : AreInOrder on
  pub on_ahead : (f : PlannedFlip) → IsIn on f → IsIn ahead f
  pub others : (f : PlannedFlip) → IsIn ahead f → IsIn on f ⊎ IsPassed i p on f

-- ---- what they come to

-- Those that stay of all lines, and of some: all but those of some that fell.
pub record Stay (ahead on left kept : List PlannedFlip) : Type 0 where
  pub order : AreInOrder left
  pub kept_on : (f : PlannedFlip) → IsIn kept f → IsIn on f
  pub of_left : (f : PlannedFlip) → IsIn left f → IsIn ahead f × (IsIn on f → IsIn kept f)
  pub to_left : (f : PlannedFlip) → IsIn ahead f → (IsIn on f → IsIn kept f) → IsIn left f

-- To go through some lines is to go through all, but for the lines that stay.
pub record GoAlike (i : ℕ) (p : Progress) (ahead on : List PlannedFlip) : Type 0 where
  pub all_else : none_ahead (after_lines i (map line_of ahead) p) ≡ none_ahead (with_each i on (none_ahead p))
  pub left : List PlannedFlip
  pub kept : List PlannedFlip
  pub left_is : (after_lines i (map line_of ahead) p).ahead ≡ map line_of left
  pub kept_is : (with_each i on (none_ahead p)).ahead ≡ map line_of kept
  pub stay : Stay ahead on left kept
  -- what waits and stays isn't admissible
  pub blocked : (f : PlannedFlip) → IsIn left f → f.waits ≡ true → f.moment ≤ i
      → is_admissible (after_lines i (map line_of ahead) p).total (after_lines i (map line_of ahead) p).hits f ≡ false
  -- the flips that fall at their moment are gone
  pub fell : (f : PlannedFlip) → IsIn left f → f.waits ≡ false → nat_eq f.moment i ≡ false

-- Flips move nobody, and make no object.
pub record MovesNobody (p q : Progress) : Type 0 where
  pub setting : q.total.setting ≡ p.total.setting
  pub class : q.total.class ≡ p.total.class
  pub frames : q.total.frames ≡ p.total.frames
  pub started : q.total.started ≡ p.total.started
  pub made : q.total.made ≡ p.total.made
  pub state : q.total.state ≡ p.total.state

pub record SomeLinesAreEnough : Type 0 where
  pub alike : (i : ℕ) (p : Progress) (ahead on : List PlannedFlip) → AreEnough i p ahead on → GoAlike i p ahead on
  pub still : (i : ℕ) (on : List PlannedFlip) (p : Progress) → MovesNobody p (with_each i on p)
  pub flip_still : (f : PlannedFlip) (p : Progress) → MovesNobody p (with_flip f p)
