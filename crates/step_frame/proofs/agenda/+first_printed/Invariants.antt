use Rattle.std.proofs.Common.{length}
use Rattle.step_frame.proofs.agenda.+first_printed.Given as goal

abbrev pub decreases-first_printed : goal.decreases-first_printed
decreases-first_printed l = length l.operands.now
