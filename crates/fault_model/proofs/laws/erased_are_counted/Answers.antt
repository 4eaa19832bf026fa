use Rattle.fault_model.proofs.Counts.{erases-source}
use Rattle.fault_model.proofs.laws.erased_are_counted.Goals as goal

pub returns : goal.returns
returns c = erases-source
