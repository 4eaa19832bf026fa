-- The words of parts as the code has them.
use Rattle.std.specs.Prelude.{ℕ, nat_eq, Bool, not, ◌&&◌, List, map, find, Option}
use Rattle.agxx_base.specs.declared.ids.ClassId.{ClassId}
use Rattle.cxx_core.specs.CoreProgram.{CoreWord, CoreClass}
use Rattle.step_machine.specs.Setting.{Setting, word_number}
use Rattle.fault_model.specs.Parts as parts
use Rattle.fault_model.specs.Parts.{is_counter, number_of}
use Rattle.fault_watch.specs.declared.part_words.PartWord.{PartWord}

abbrev pub shown : parts.PartWord → PartWord
shown p = record { class = p.class; kind = p.word.kind }

-- of a class
abbrev pub in_class : ClassId → CoreWord → parts.PartWord
in_class class w = record { class = class; word = w }

-- the first of some words of a class that has this number
abbrev pub first_of : Setting → ClassId → ℕ → List CoreWord → Option parts.PartWord
first_of s class n words = find (λ p. nat_eq (number_of s p) n) (map (in_class class) words)

-- whether a word that a class declares has this number, the one that counts aside
abbrev pub is_numbered : Setting → ClassId → CoreClass → ℕ → CoreWord → Bool
is_numbered s number class n w = nat_eq (word_number s number w.name) n && not (is_counter s class w.name)
