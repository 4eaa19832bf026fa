use Rattle.std.proofs.Common.{length}
use Rattle.step_engine.proofs.start.+push_unmakes.Given as goal

abbrev pub decreases-push_unmakes : goal.decreases-push_unmakes
decreases-push_unmakes l = length l.globals.now
