use Rattle.std.proofs.Common.{length}
use Rattle.agxx_calls.proofs.words.+are_more.Given as goal

abbrev pub decreases-are_more : goal.decreases-are_more
decreases-are_more l = length l.words.now
