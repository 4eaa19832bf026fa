-- Numbers of words and mutexes, and what is located by them, are each other's inverse.
use Rattle.std.specs.Prelude.{◌≡◌, ℕ, ◌<◌, ◌≤◌, true, List, map, Option, Some, None, is_some, slice_get}
use Rattle.agxx_base.specs.declared.ids.ClassId.{ClassId}
use Rattle.cxx_tree.specs.ProgramTree.{ProgramTree}
use Rattle.cxx_core.specs.CoreProgram.{CoreWord, CoreClass, CoreProgram}
use Rattle.cxx_core.specs.ElaboratedProgram.{core_program}
use Rattle.step_machine.specs.Setting.{Setting, class_at, is_of, word_number, mutex_number}
use Rattle.machine_laws.specs.Locate.{Located, own_words, own_mutexes, own_count, count, number_at, locate}

-- the base of a class stands before it
pub record HasBasesBefore (program : CoreProgram) : Type 0 where
  pub before : (class base : ClassId) (found : CoreClass) → slice_get program.classes class.0 ≡ Some found → found.base ≡ Some base → base.0 < class.0

-- no number stands twice
pub record IsDistinct (numbers : List ℕ) : Type 0 where
  pub apart : (i j n : ℕ) → slice_get numbers i ≡ Some n → slice_get numbers j ≡ Some n → i ≡ j

-- objects of a class have what stands at this position of its own or of one above it
pub record IsAt (of : CoreClass → ℕ) (s : Setting) (class : Option ClassId) (p : Located) : Type 0 where
  pub is_of : is_of s class (Some p.0) ≡ true
  pub within : p.1 < own_count of s p.0

pub record AreLocated (of : CoreClass → ℕ) (s : Setting) : Type 0 where
  pub found : (class : Option ClassId) (n : ℕ) (p : Located) → locate of s class n ≡ Some p → IsAt of s class p × (number_at of s p ≡ n)
  pub back : (class : Option ClassId) (p : Located) → IsAt of s class p → locate of s class (number_at of s p) ≡ Some p
  pub each : (class : Option ClassId) (n : ℕ) → n < count of s class → is_some (locate of s class n) ≡ true
  pub no_other : (class : Option ClassId) (n : ℕ) → count of s class ≤ n → locate of s class n ≡ None
  pub apart : (class : Option ClassId) (p q : Located) → IsAt of s class p → IsAt of s class q → number_at of s p ≡ number_at of s q → p ≡ q

-- what a class declares at a position is located by its name
pub record NamesAreLocated (s : Setting) : Type 0 where
  pub of_word : (class : Option ClassId) (own : ClassId) (found : CoreClass) (i : ℕ) (word : CoreWord) → is_of s class (Some own) ≡ true → class_at s own ≡ Some found
      → IsDistinct (map (λ (w : CoreWord). w.name) found.words) → slice_get found.words i ≡ Some word
      → locate own_words s class (word_number s own word.name) ≡ Some (own, i)
  pub of_mutex : (class : Option ClassId) (own : ClassId) (found : CoreClass) (i name : ℕ) → is_of s class (Some own) ≡ true → class_at s own ≡ Some found
      → IsDistinct found.mutexes → slice_get found.mutexes i ≡ Some name
      → locate own_mutexes s class (mutex_number s own name) ≡ Some (own, i)

pub record WordsAreLocated : Type 0 where
  pub of_words : (s : Setting) → HasBasesBefore s.program → AreLocated own_words s
  pub of_mutexes : (s : Setting) → HasBasesBefore s.program → AreLocated own_mutexes s
  pub of_names : (s : Setting) → HasBasesBefore s.program → NamesAreLocated s
  -- the bases of every program do
  pub of_programs : (names : List (List ℕ)) (q : ProgramTree) → HasBasesBefore (core_program names q)
