use Rattle.fault_model.proofs.States.{state-tells-flips}
use Rattle.fault_model.proofs.laws.state_tells_flips.Goals as goal

pub returns : goal.returns
returns c = state-tells-flips
