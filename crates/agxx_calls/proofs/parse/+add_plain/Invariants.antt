use Rattle.std.proofs.Common.{length}
use Rattle.agxx_calls.proofs.parse.+add_plain.Given as goal

abbrev pub decreases-add_plain : goal.decreases-add_plain
decreases-add_plain l = length l.words.now
