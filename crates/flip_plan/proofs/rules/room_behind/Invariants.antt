use Rattle.std.proofs.Common.{◌≡◌, drop}
use Rattle.flip_plan.specs.Rules.{room_behind}
use Rattle.flip_plan.proofs.rules.room_behind.Given as goal

abbrev pub invariant-loop-word : goal.invariant-loop-word
invariant-loop-word l = room_behind l.left (drop l.word-index l.words) ≡ room_behind l.fn.room l.words
