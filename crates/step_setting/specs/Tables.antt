-- The tables that look-ups read.
use Rattle.std.specs.Prelude.{◌≡◌, ℕ, ◌+◌, ◌-◌, List, [], ◌∷◌, length, map, Option, Some, None}
use Rattle.cxx_core.specs.CoreProgram as cp
use Rattle.cxx_core.specs.CoreProgram.{CoreWord, CoreClass, CoreGlobal}
use Rattle.step_machine.specs.Setting.{Setting, chain}
use Rattle.step_setting.specs.declared.places.Places.{Places}
use Rattle.step_setting.specs.declared.tables.Sizes.{Sizes}
use Rattle.step_setting.specs.declared.tables.ClassTable.{ClassTable}
use Rattle.step_setting.specs.Places.{places, no_places, with_place, number_in}

abbrev pub sum_of : ℕ → ℕ → ℕ
sum_of count more = count + more

-- ---- classes

abbrev pub no_sizes : Sizes
no_sizes = record { words = 0; mutexes = 0 }

-- sizes with those that a class itself declares
abbrev pub with_class : Sizes → CoreClass → Sizes
with_class n c = record { words = sum_of n.words (length c.words); mutexes = sum_of n.mutexes (length c.mutexes) }

abbrev pub with_classes : Sizes → List CoreClass → Sizes
with_classes n [] = n
with_classes n (c ∷ cs) = with_classes (with_class n c) cs

abbrev pub word_names : List CoreWord → List ℕ
word_names words = map (λ w. w.name) words

-- sizes of what stands before that which a class itself declares
abbrev pub sizes_above : List CoreClass → CoreClass → Sizes
sizes_above classes c = with_classes no_sizes (chain classes (length classes) c.base)

abbrev pub class_table : List CoreClass → CoreClass → ClassTable
class_table classes c = record {
  sizes = with_classes (with_class no_sizes c) (chain classes (length classes - 1) c.base);
  words = places (sizes_above classes c).words (word_names c.words);
  mutexes = places (sizes_above classes c).mutexes c.mutexes;
}

abbrev pub class_tables : List CoreClass → List ClassTable
class_tables classes = map (class_table classes) classes

abbrev pub sizes_by : Option ClassTable → Sizes
sizes_by None = no_sizes
sizes_by (Some table) = table.sizes

abbrev pub word_by : Option ClassTable → ℕ → ℕ
word_by None name = 0
word_by (Some table) name = number_in table.words name

abbrev pub mutex_by : Option ClassTable → ℕ → ℕ
mutex_by None name = 0
mutex_by (Some table) name = number_in table.mutexes name

-- ---- global objects

abbrev pub with_global : Places → CoreGlobal → Places
with_global p (cp.object at name class arguments) = with_place p name
with_global p _ = p

abbrev pub with_globals : Places → List CoreGlobal → Places
with_globals p [] = p
with_globals p (g ∷ gs) = with_globals (with_global p g) gs

-- the numbers of the global objects
abbrev pub object_places : List CoreGlobal → Places
object_places globals = with_globals (no_places 0) globals

-- ---- both

-- tables agree with what a machine is set to run
pub record Agrees (s : Setting) (classes : List ClassTable) (objects : Places) : Type 0 where
  pub of_classes : classes ≡ class_tables s.program.classes
  pub of_objects : objects ≡ object_places s.program.globals
