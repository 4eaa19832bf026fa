use Rattle.std.proofs.Common.{length}
use Rattle.step_engine.proofs.start.+push_makes.Given as goal

abbrev pub decreases-push_makes : goal.decreases-push_makes
decreases-push_makes l = length l.globals.now
