use Rattle.fault_lines.proofs.Lines.{some-lines-are-enough}
use Rattle.fault_lines.proofs.some_lines_are_enough.Goals as goal

pub returns : goal.returns
returns c = some-lines-are-enough
