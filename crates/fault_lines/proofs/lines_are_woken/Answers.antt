use Rattle.fault_lines.proofs.Wakes.{lines-are-woken}
use Rattle.fault_lines.proofs.lines_are_woken.Goals as goal

pub returns : goal.returns
returns c = lines-are-woken
