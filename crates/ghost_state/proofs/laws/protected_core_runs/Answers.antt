use Rattle.ghost_state.proofs.Example.{protected-runs}
use Rattle.ghost_state.proofs.laws.protected_core_runs.Goals as goal

pub returns : goal.returns
returns c = protected-runs
