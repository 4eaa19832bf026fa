use Rattle.std.proofs.Common.{length}
use Rattle.agxx_main.proofs.weave.Weaver.+read_aspects.Given as goal

abbrev pub decreases-read_aspects : goal.decreases-read_aspects
decreases-read_aspects l = length l.left.now
