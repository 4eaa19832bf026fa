-- Which waiting lines a turn may make admissible: those on an object that is made, and those on parts that the frame that
-- ran was inside of, where it is gone.
use Rattle.std.specs.Prelude.{◌≡◌, ◌<◌, ◌≤◌, ◌⊎◌, ℕ, suc, true, false, length, Option, Some, None}
use Rattle.agxx_base.specs.declared.ids.ClassId.{ClassId}
use Rattle.flip_plan.specs.declared.flip.PlannedFlip.{PlannedFlip}
use Rattle.step_machine.specs.Turn.{thread_at}
use Rattle.step_machine.specs.Machine.{Machine, next}
use Rattle.step_machine.specs.Total.{Total, reading}
use Rattle.fault_model.specs.Admissible.{Hits, while_out, is_admissible}
use Rattle.fault_model.specs.Stays.{is_top_on}
use Rattle.fault_lines.specs.Lines.{IsOn}

-- It is on a part that the frame that ran was inside of, and that frame is gone.
pub record IsLeft (m : Machine) (t : ℕ) (f : PlannedFlip) : Type 0 where
  pub class : ClassId
  pub on : IsOn (reading m) class f
  pub top : is_top_on m.setting f.object.0 class (thread_at m.threads t) ≡ true
  pub gone : length (thread_at (next m t).0.threads t) < length (thread_at m.threads t)

-- Its object was made in this turn.
pub record IsMade (m : Machine) (t : ℕ) (f : PlannedFlip) : Type 0 where
  pub object : f.object.0 ≡ length m.world.objects
  pub made : length (next m t).0.world.objects ≡ suc (length m.world.objects)

-- A line that waits for an object, which isn't made; or for a part of one that was made, which may be destroyed by now.
abbrev pub IsFor : Total → PlannedFlip → Option ClassId → Type 0
IsFor m f None = m.made ≤ f.object.0
IsFor m f (Some class) = (f.object.0 < m.made) × ((m.class f.object.0 ≡ None) ⊎ IsOn m class f)

-- its object was made, and is destroyed by now, or has no such bit in a part
abbrev pub IsDead : Total → PlannedFlip → Type 0
IsDead m f = (f.object.0 < m.made) × ((m.class f.object.0 ≡ None) ⊎ ((class : ClassId) → IsOn m class f → ⊥))

pub record LinesAreWoken : Type 0 where
  -- what wasn't admissible and is
  pub wakes : (m : Machine) (t : ℕ) (hits : Hits) (f : PlannedFlip) → is_admissible (reading m) hits f ≡ false
      → is_admissible (reading (next m t).0) (while_out (reading (next m t).0) hits) f ≡ true → IsLeft m t f ⊎ IsMade m t f
  pub keeps_for : (m : Machine) (t : ℕ) (f : PlannedFlip) (class : ClassId) → IsFor (reading m) f (Some class)
      → IsFor (reading (next m t).0) f (Some class)
  pub keeps_unmade : (m : Machine) (t : ℕ) (f : PlannedFlip) → IsFor (reading m) f None
      → IsFor (reading (next m t).0) f None ⊎ IsMade m t f
  pub keeps_dead : (m : Machine) (t : ℕ) (f : PlannedFlip) → IsDead (reading m) f → IsDead (reading (next m t).0) f
  -- what is dead isn't admissible
  pub dead : (m : Total) (hits : Hits) (f : PlannedFlip) → IsDead m f → is_admissible m hits f ≡ false
  -- where its object was made, it is for a part or dead
  pub cases : (m : Total) (f : PlannedFlip) → f.object.0 < m.made → ((class : ClassId) × IsFor m f (Some class)) ⊎ IsDead m f
  -- of one part, and of no other
  pub one_part : (m : Total) (f : PlannedFlip) (class other : ClassId) → IsOn m class f → IsOn m other f → class ≡ other
  -- while its object isn't made, it isn't admissible
  pub unmade : (m : Machine) (hits : Hits) (f : PlannedFlip) → IsFor (reading m) f None → is_admissible (reading m) hits f ≡ false
