use Rattle.agxx_base.proofs.Leasts as leasts
use Rattle.agxx_base.proofs.refusals.least_is_least.Goals as goal

pub returns : goal.returns
returns c = leasts.least_is_least
