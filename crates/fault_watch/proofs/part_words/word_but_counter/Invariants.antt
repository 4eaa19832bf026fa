use Rattle.std.proofs.Common.{◌≡◌, map, drop}
use Rattle.cxx_core.specs.ProgramView.{class_core, word_core}
use Rattle.fault_watch.specs.PartWords.{first_of}
use Rattle.fault_watch.proofs.PartWords.{kept}
use Rattle.fault_watch.proofs.part_words.word_but_counter.Given as goal

abbrev pub invariant-loop-word : goal.invariant-loop-word
invariant-loop-word l =
    first_of l.setting l.number l.at (kept l.setting l.number (class_core l.class) l.at (map word_core (drop l.word-index l.words))) ≡
    first_of l.setting l.number l.at (kept l.setting l.number (class_core l.class) l.at (map word_core l.class.words))
