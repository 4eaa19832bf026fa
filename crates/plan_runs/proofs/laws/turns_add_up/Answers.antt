use Rattle.std.proofs.Common.{refl}
use Rattle.plan_runs.proofs.laws.turns_add_up.Goals as goal

pub returns : goal.returns
returns c = record { planned = λ p. refl; unflipped = λ r flips. refl }
