use Rattle.fault_lines.proofs.Lines.{some-lines-are-enough}
use Rattle.fault_lines.proofs.Wakes.{lines-are-woken}
use Rattle.fault_lines.proofs.Settles.{moments-settle}
use Rattle.fault_lines.proofs.moments_settle.Goals as goal

pub returns : goal.returns
returns c = moments-settle some-lines-are-enough lines-are-woken
