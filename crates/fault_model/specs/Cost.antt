-- How many inserted steps a thread takes in a row at most, by the source: its classes with what guards each, and how many
-- parameters each level has that advice makes.
use Rattle.std.specs.Prelude.{ℕ, zero, suc, ◌+◌, ◌*◌, ◌^◌, max, nat_le, List, [], ◌∷◌, length, sum_by, Option, Some, None, if◌then◌else◌}
use Rattle.agxx_base.specs.declared.ids.ClassId.{ClassId}
use Rattle.cxx_core.specs.CoreProgram.{CoreWord, CoreClass}
use Rattle.step_machine.specs.Setting.{Setting, class_at, line}

-- ---- codes, by how much they add to k members

abbrev pub Code : Type 0
Code = ℕ → ℕ

-- two copies
abbrev pub copies : Code
copies k = 2

-- the least r, from one on and within so many, with 2^r at least k + r + 1
abbrev pub check_words_from : ℕ → ℕ → ℕ → ℕ
check_words_from k zero r = r
check_words_from k (suc n) r = if nat_le (k + r + 1) (2 ^ r) then r else check_words_from k n (suc r)

-- of a Hamming code the least r with 2^r at least k + r + 1, which is k + 1 at most
abbrev pub check_words : Code
check_words k = check_words_from k (suc k) 0

-- the code of each guarded class
abbrev pub Guards : Type 0
Guards = ClassId → Option Code

-- ---- costs

abbrev pub part_cost : Code → ℕ → ℕ
part_cost code k = 64 * (k + 4) * (code k + 4)

abbrev pub own_cost_of : Code → List CoreWord → ℕ
own_cost_of code [] = 0
own_cost_of code (w ∷ ws) = part_cost code (length (w ∷ ws))

abbrev pub own_cost_by : Option Code → Option CoreClass → ℕ
own_cost_by None class = 0
own_cost_by (Some code) None = 0
own_cost_by (Some code) (Some class) = own_cost_of code class.words

module _ (s : Setting) (guards : Guards) where
  -- of the part that a class itself has: a guarded class has one where it declares a member
  abbrev pub own_cost : ClassId → ℕ
  own_cost class = own_cost_by (guards class) (class_at s class)

  -- of its part and of those of the classes above it
  abbrev pub class_cost : ClassId → ℕ
  class_cost class = sum_by own_cost (line s (Some class))

  -- the greatest of so many classes, the first ones; 0 of none
  abbrev pub greatest_class : ℕ → ℕ
  greatest_class zero = 0
  greatest_class (suc n) = max (class_cost (record { 0 = n })) (greatest_class n)

  -- of a level with so many parameters
  abbrev pub level_cost : ℕ → ℕ
  level_cost parameters = 16 * (parameters + 4)

  abbrev pub greatest_level : List ℕ → ℕ
  greatest_level [] = 0
  greatest_level (a ∷ levels) = max (level_cost a) (greatest_level levels)

  -- of a program with levels of so many parameters each
  abbrev pub cost : List ℕ → ℕ
  cost levels = greatest_class (length s.program.classes) + greatest_level levels
