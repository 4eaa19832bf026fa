use Rattle.std.proofs.Common.{◌≡◌, drop, length}
use Rattle.flip_plan.specs.Reading.{with_items, HasRoom}
use Rattle.flip_plan.proofs.build.add_items.Given as goal

abbrev pub invariant-loop-word : goal.invariant-loop-word
invariant-loop-word l =
    (with_items l.runs (drop l.word-index l.words) ≡ with_items l.initial.runs l.words)
    × HasRoom l.runs (length (drop l.word-index l.words))
