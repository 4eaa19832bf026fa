use Rattle.fault_model.proofs.Stays.{stays-change}
use Rattle.fault_model.proofs.laws.stays_change_at_the_top.Goals as goal

pub returns : goal.returns
returns c = stays-change
