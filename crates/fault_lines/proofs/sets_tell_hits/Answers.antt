use Rattle.fault_lines.proofs.Marks.{sets-tell-hits}
use Rattle.fault_lines.proofs.sets_tell_hits.Goals as goal

pub returns : goal.returns
returns c = sets-tell-hits
