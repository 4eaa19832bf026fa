-- Which classes of a program have a part, and the words of parts. A class has one where it declares a member that is named
-- after it: `__gop_n_`, and then the class's own name. This member counts; the other words that the class itself declares
-- are the words of its part. Mutexes are no words.
use Rattle.std.specs.Prelude.{ℕ, nat_eq, Bool, true, false, not, List, [], ◌++◌, map, filter, find, flat_map, Option, Some, None, slice_get, codes, if◌then◌else◌}
use Rattle.std.specs.List.{list_any}
use Rattle.agxx_base.specs.declared.ids.ClassId.{ClassId}
use Rattle.cxx_names.specs.Declarations.{is_text}
use Rattle.cxx_core.specs.CoreProgram.{CoreWord, CoreClass}
use Rattle.step_machine.specs.Setting.{Setting, class_at, line, word_number}

-- ---- names of a class's generated members and functions

abbrev pub is_named_by : List (List ℕ) → List ℕ → Option (List ℕ) → ℕ → Bool
is_named_by names beginning None name = false
is_named_by names beginning (Some text) name = is_text names name (beginning ++ text)

-- whether a name is this beginning and then the class's own name
abbrev pub is_named_after : Setting → List ℕ → CoreClass → ℕ → Bool
is_named_after s beginning class name = is_named_by s.names beginning (slice_get s.names class.name.item.0) name

-- ---- parts

abbrev pub is_counter : Setting → CoreClass → ℕ → Bool
is_counter s class name = is_named_after s (codes "__gop_n_") class name

-- the names of the members that a class itself declares
abbrev pub member_names : CoreClass → List ℕ
member_names class = map (λ (w : CoreWord). w.name) class.words ++ class.mutexes

abbrev pub declares_part : Setting → CoreClass → Bool
declares_part s class = list_any (is_counter s class) (member_names class)

abbrev pub words_but_counter : Setting → CoreClass → List CoreWord
words_but_counter s class = filter (λ w. not (is_counter s class w.name)) class.words

abbrev pub has_part_by : Setting → Option CoreClass → Bool
has_part_by s None = false
has_part_by s (Some class) = declares_part s class

abbrev pub has_part : Setting → ClassId → Bool
has_part s class = has_part_by s (class_at s class)

abbrev pub part_words_by : Setting → Option CoreClass → List CoreWord
part_words_by s None = []
part_words_by s (Some class) = if declares_part s class then words_but_counter s class else []

-- the words of the part of a class, where it has one
abbrev pub part_words : Setting → ClassId → List CoreWord
part_words s class = part_words_by s (class_at s class)

-- whether a part may be hit once in all, and not at each bit place once
abbrev pub is_single : Setting → ClassId → Bool
is_single s class = true

-- ---- the parts in an object

-- of a part's class
pub record PartWord : Type 0 where
  pub class : ClassId
  pub word : CoreWord

-- its number among the words of an object
abbrev pub number_of : Setting → PartWord → ℕ
number_of s p = word_number s p.class p.word.name

abbrev pub words_with_class : Setting → ClassId → List PartWord
words_with_class s class = map (λ w. record { class = class; word = w }) (part_words s class)

-- those of the parts in an object of a class: of its own part and of those of the classes above it
abbrev pub words_in_parts : Setting → Option ClassId → List PartWord
words_in_parts s own = flat_map (words_with_class s) (line s own)

-- the word of a part that has this number in an object of a class, if it is one
abbrev pub part_word_at : Setting → Option ClassId → ℕ → Option PartWord
part_word_at s own w = find (λ p. nat_eq (number_of s p) w) (words_in_parts s own)
