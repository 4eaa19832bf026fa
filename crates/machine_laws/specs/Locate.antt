-- Which class, and which one of its own, a number is of those that count what an object has: its words, or its mutexes. What
-- is counted is a number for each class.
use Rattle.std.specs.Prelude.{ℕ, ◌+◌, ◌-◌, nat_lt, List, [], ◌∷◌, length, sum_by, Option, Some, None, if◌then◌else◌}
use Rattle.agxx_base.specs.declared.ids.ClassId.{ClassId}
use Rattle.cxx_core.specs.CoreProgram.{CoreClass}
use Rattle.step_machine.specs.Setting.{Setting, class_at, lineage, line}

-- the words, and the mutexes, that a class itself declares
abbrev pub own_words : CoreClass → ℕ
own_words class = length class.words

abbrev pub own_mutexes : CoreClass → ℕ
own_mutexes class = length class.mutexes

-- a class, and a position among what it declares itself
abbrev pub Located : Type 0
Located = ClassId × ℕ

-- of a class below others that have so many, and of which it has so many itself
abbrev pub located_on : ℕ → ℕ → ClassId → ℕ → Option Located → Option Located
located_on above own class n higher =
    if nat_lt n above then higher else (if nat_lt n (above + own) then Some (class, n - above) else None)

-- along classes, each below those that follow
abbrev pub located_in : (ClassId → ℕ) → List ClassId → ℕ → Option Located
located_in own [] n = None
located_in own (class ∷ above) n = located_on (sum_by own above) (own class) class n (located_in own above n)

module _ (of : CoreClass → ℕ) where
  abbrev pub own_by : Option CoreClass → ℕ
  own_by None = 0
  own_by (Some class) = of class

  module _ (s : Setting) where
    -- how many a class itself has
    abbrev pub own_count : ClassId → ℕ
    own_count class = own_by (class_at s class)

    -- how many an object of a class has
    abbrev pub count : Option ClassId → ℕ
    count class = sum_by of (lineage s class)

    abbrev pub above_by : Option CoreClass → ℕ
    above_by None = 0
    above_by (Some class) = count class.base

    -- how many the classes above a class have
    abbrev pub above_count : ClassId → ℕ
    above_count class = above_by (class_at s class)

    -- the number of what a class has at a position
    abbrev pub number_at : Located → ℕ
    number_at p = above_count p.0 + p.1

    -- what a number of an object of a class is
    abbrev pub locate : Option ClassId → ℕ → Option Located
    locate class n = located_in own_count (line s class) n
