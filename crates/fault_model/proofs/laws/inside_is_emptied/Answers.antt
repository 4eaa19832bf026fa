use Rattle.fault_model.proofs.Insides.{inside-is-emptied}
use Rattle.fault_model.proofs.laws.inside_is_emptied.Goals as goal

pub returns : goal.returns
returns c = inside-is-emptied
