use Rattle.std.proofs.Common.{◌≡◌, ◌+◌, ◌++◌, length}
use Rattle.flip_plan.specs.Texts.{words_from, words_of, span}
use Rattle.flip_plan.proofs.line.words_of.Given as goal

abbrev pub invariant-pieces : goal.invariant-pieces
invariant-pieces l = (l.words ++ words_from l.column l.pieces ≡ words_of l.fn.text) × (l.column + span l.pieces ≡ length l.fn.text + 2)

abbrev pub decreases-pieces : goal.decreases-pieces
decreases-pieces l = length l.pieces
