use Rattle.fault_model.proofs.Together.{admissible-hits}
use Rattle.fault_model.proofs.laws.admissible_hits_go_together.Goals as goal

pub returns : goal.returns
returns c = admissible-hits
