use Rattle.fault_model.proofs.LaidOut.{parts-are-laid-out}
use Rattle.fault_model.proofs.laws.parts_are_laid_out.Goals as goal

pub returns : goal.returns
returns c = parts-are-laid-out
