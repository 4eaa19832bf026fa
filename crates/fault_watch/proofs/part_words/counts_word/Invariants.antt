use Rattle.std.proofs.Common.{◌≡◌, map, drop}
use Rattle.std.specs.List.{list_any}
use Rattle.cxx_core.specs.CoreProgram.{CoreWord}
use Rattle.cxx_core.specs.ProgramView.{class_core, word_core}
use Rattle.fault_model.specs.Parts.{is_counter}
use Rattle.fault_watch.proofs.part_words.counts_word.Given as goal

abbrev pub invariant-loop-word : goal.invariant-loop-word
invariant-loop-word l =
    list_any (λ (w : CoreWord). is_counter l.setting (class_core l.class) w.name) (map word_core (drop l.word-index l.words)) ≡
    list_any (λ (w : CoreWord). is_counter l.setting (class_core l.class) w.name) (map word_core l.class.words)
