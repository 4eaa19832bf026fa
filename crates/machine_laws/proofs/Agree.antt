-- The layouts by declarations are the machine's.
use Rattle.std.proofs.Common.{ap, [], ◌∙◌, slice_get}
use Rattle.cxx_names.specs.Declarations.{declared}
use Rattle.cxx_layout.specs.Parts.{own_part}
use Rattle.machine_laws.specs.Layouts.{LayoutsAgree, words_in, part_in, setting_of}
use Rattle.machine_laws.proofs.Bases.{has-bases}
use Rattle.machine_laws.proofs.Along.{count-along, machine-words, stands-at}
use Rattle.machine_laws.proofs.LaidOut.{declared_words, layouts-are, parts-are, laid-out}
use Rattle.machine_laws.proofs.Layouts.{words-at, parts-at, no-more}
use Rattle.machine_laws.proofs.DistinctMembers.{distinct-members}

pub layouts-agree : LayoutsAgree
layouts-agree = record {
  of_accepted = distinct-members;
  of_words = λ names q distinct class.
      ap (λ l. slice_get l class.0) (layouts-are [] (declared names q).classes)
      ∙ laid-out declared_words (words_in (setting_of names q)) (setting_of names q) (has-bases names q) (declared names q).classes
      (words-at names q distinct) (no-more names q) class;
  of_parts = λ names q class.
      ap (λ l. slice_get l class.0) (parts-are names [] (declared names q).classes)
      ∙ laid-out (own_part names) (part_in names (declared names q)) (setting_of names q) (has-bases names q) (declared names q).classes
      (parts-at names q) (no-more names q) class;
  of_machine = machine-words;
  of_count = count-along;
  of_located = stands-at;
}
