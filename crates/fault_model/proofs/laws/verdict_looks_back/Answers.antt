use Rattle.fault_model.proofs.Verdicts.{verdict-looks-back}
use Rattle.fault_model.proofs.laws.verdict_looks_back.Goals as goal

pub returns : goal.returns
returns c = verdict-looks-back
