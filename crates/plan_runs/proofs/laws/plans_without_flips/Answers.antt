use Rattle.plan_runs.proofs.Unflipped.{runs-unflipped}
use Rattle.plan_runs.proofs.laws.plans_without_flips.Goals as goal

pub returns : goal.returns
returns c = runs-unflipped
