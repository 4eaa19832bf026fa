use Rattle.fault_lines.proofs.Wakes.{lines-are-woken}
use Rattle.fault_lines.proofs.Readies.{turns-make-ready}
use Rattle.fault_lines.proofs.turns_make_ready.Goals as goal

pub returns : goal.returns
returns c = turns-make-ready lines-are-woken
