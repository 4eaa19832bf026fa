use Rattle.std.proofs.Common.{◌≡◌, map, slice_get}
use Rattle.cxx_core.specs.ProgramView.{class_core}
use Rattle.step_machine.specs.Setting.{chain}
use Rattle.step_machine.specs.Flips.{words_in, word_count}
use Rattle.step_engine.proofs.flips.width_upwards.Given as goal

abbrev pub invariant-loop-left : goal.invariant-loop-left
invariant-loop-left l = record {
  count : l.above ≡ word_count (chain (map class_core l.classes) l.left l.next);
  same : slice_get (words_in (chain (map class_core l.classes) l.left l.next)) l.word ≡ slice_get (words_in (chain (map class_core l.classes) l.steps l.fn.class)) l.word;
}

abbrev pub decreases-loop-left : goal.decreases-loop-left
decreases-loop-left l = l.left
