-- The words and parts of objects as the declarations lay them out are those along the machine's line of classes, those of the
-- topmost class first.
use Rattle.std.specs.Prelude.{◌≡◌, ℕ, List, [], ◌∷◌, ◌++◌, length, map, Option, Some, None, option_map, slice_get}
use Rattle.agxx_base.specs.declared.ids.ClassId.{ClassId}
use Rattle.cxx_tree.specs.ProgramTree as p
use Rattle.cxx_tree.specs.ProgramTree.{ItemTree, ClassTree, ProgramTree}
use Rattle.cxx_names.specs.declared.declarations.ClassInfo.{ClassInfo}
use Rattle.cxx_names.specs.declared.declarations.Declared.{Declared}
use Rattle.cxx_names.specs.Declarations as d
use Rattle.cxx_names.specs.Declarations.{declared}
use Rattle.cxx_rules.specs.Rules.{declared_twice}
use Rattle.cxx_layout.specs.declared.layouts.WordInfo.{WordInfo}
use Rattle.cxx_layout.specs.Layouts.{layout}
use Rattle.cxx_layout.specs.Parts.{own_part, parts}
use Rattle.cxx_core.specs.CoreProgram.{CoreWord, CoreClass}
use Rattle.cxx_core.specs.ElaboratedProgram.{core_program}
use Rattle.step_machine.specs.Setting.{Setting, class_at, line, word_count}
use Rattle.step_machine.specs.Flips.{words_of}
use Rattle.machine_laws.specs.Locate.{Located, own_words, locate}
use Rattle.machine_laws.specs.Locates.{HasBasesBefore, IsDistinct}

-- ---- members of one name

abbrev pub member_names : List ItemTree → List ℕ
member_names [] = []
member_names (p.member m ∷ items) = m.name.item.0 ∷ member_names items
member_names (_ ∷ items) = member_names items

-- no class declares two members of one name
pub record HasDistinctMembers (q : ProgramTree) : Type 0 where
  pub of_class : (i : ℕ) (class : ClassTree) → slice_get q.decls i ≡ Some (p.class class) → IsDistinct (member_names class.items)

-- ---- along a line of classes

-- what each class has of its own, that of the last first
abbrev pub along : {A : Type 0} → (ClassId → List A) → List ClassId → List A
along own [] = []
along own (class ∷ above) = along own above ++ own class

abbrev pub word_of : ClassId → CoreWord → WordInfo
word_of class word = record { name = record { 0 = word.name }; kind = word.kind; class = class }

abbrev pub words_by : Option CoreClass → List CoreWord
words_by None = []
words_by (Some class) = class.words

-- the words of a class itself
abbrev pub words_in : Setting → ClassId → List WordInfo
words_in s class = map (word_of class) (words_by (class_at s class))

-- the words of an object of a class
abbrev pub words_along : Setting → Option ClassId → List WordInfo
words_along s class = along (words_in s) (line s class)

abbrev pub part_by : List (List ℕ) → ClassId → Option ClassInfo → List ClassId
part_by names class None = []
part_by names class (Some info) = own_part names class info

-- a class, if it has a part
abbrev pub part_in : List (List ℕ) → Declared → ClassId → List ClassId
part_in names known class = part_by names class (d.class_at known class)

abbrev pub core_word : WordInfo → CoreWord
core_word word = record { name = word.name.0; kind = word.kind }

-- the word of a class at a position
abbrev pub located_word : Setting → Option Located → Option WordInfo
located_word s None = None
located_word s (Some p) = option_map (word_of p.0) (slice_get (words_by (class_at s p.0)) p.1)

-- ---- the laws

abbrev pub setting_of : List (List ℕ) → ProgramTree → Setting
setting_of names q = record { names = names; program = core_program names q }

pub record LayoutsAgree : Type 0 where
  -- where nothing is declared twice, no class declares two members of one name
  pub of_accepted : (names : List (List ℕ)) (q : ProgramTree) → declared_twice names q ≡ [] → HasDistinctMembers q
  pub of_words : (names : List (List ℕ)) (q : ProgramTree) → HasDistinctMembers q → (class : ClassId)
      → layout (declared names q) class ≡ option_map (λ found. words_along (setting_of names q) (Some class)) (class_at (setting_of names q) class)
  pub of_parts : (names : List (List ℕ)) (q : ProgramTree) (class : ClassId)
      → parts names (declared names q) class
      ≡ option_map (λ found. along (part_in names (declared names q)) (line (setting_of names q) (Some class))) (class_at (setting_of names q) class)
  -- they are the machine's words, each where its number is
  pub of_machine : (s : Setting) (class : ClassId) → map core_word (words_along s (Some class)) ≡ words_of s class
  pub of_count : (s : Setting) (class : Option ClassId) → length (words_along s class) ≡ word_count s class
  pub of_located : (s : Setting) → HasBasesBefore s.program → (class : Option ClassId) (n : ℕ) → slice_get (words_along s class) n ≡ located_word s (locate own_words s class n)
