-- The words of parts are words of objects, each at its number, and an admissible flip inverts its bit.
use Rattle.std.specs.Prelude.{◌≡◌, ℕ, true, map, Some, slice_get}
use Rattle.agxx_base.specs.declared.ids.ClassId.{ClassId}
use Rattle.flip_plan.specs.declared.flip.PlannedFlip.{PlannedFlip}
use Rattle.cxx_core.specs.CoreProgram.{CoreWord, CoreClass}
use Rattle.step_machine.specs.Setting.{Setting, class_at}
use Rattle.step_machine.specs.Flips.{words_of, flipped_of}
use Rattle.step_machine.specs.Total.{Total}
use Rattle.machine_laws.specs.Locates.{HasBasesBefore, IsDistinct}
use Rattle.fault_model.specs.Parts.{PartWord, part_word_at}
use Rattle.fault_model.specs.Admissible.{Hits, is_admissible}

-- Each class stands behind its base, and its words have names that differ, as in every accepted program.
pub record IsLaidOut (s : Setting) : Type 0 where
  pub bases : HasBasesBefore s.program
  pub words : (class : ClassId) (found : CoreClass) → class_at s class ≡ Some found → IsDistinct (map (λ (w : CoreWord). w.name) found.words)

pub record PartsAreLaidOut : Type 0 where
  pub of_word : (s : Setting) → IsLaidOut s → (class : ClassId) (n : ℕ) (p : PartWord) → part_word_at s (Some class) n ≡ Some p
      → slice_get (words_of s class) n ≡ Some p.word
  -- where the object has the word
  pub of_flip : (m : Total) → IsLaidOut m.setting → (hits : Hits) (f : PlannedFlip) (bits : ℕ) → m.word f.object.0 f.word ≡ Some bits
      → is_admissible m hits f ≡ true → (flipped_of f.object.0 f.word f.bit m).1 ≡ true
