use Rattle.machine_laws.proofs.Agree.{layouts-agree}
use Rattle.machine_laws.proofs.laws.layouts_agree.Goals as goal

pub returns : goal.returns
returns c = layouts-agree
