use Rattle.std.proofs.Common.{◌≡◌, length}
use Rattle.fault_watch.proofs.PartWords.{found_from}
use Rattle.fault_watch.proofs.part_words.part_word_at.Given as goal

abbrev pub invariant-loop-left : goal.invariant-loop-left
invariant-loop-left l =
    found_from l.setting l.word l.left l.next ≡ found_from l.setting l.word (length l.setting.program.classes) l.fn.own

abbrev pub decreases-loop-left : goal.decreases-loop-left
decreases-loop-left l = l.left
