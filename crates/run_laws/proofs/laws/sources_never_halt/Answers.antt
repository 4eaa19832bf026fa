use Rattle.run_laws.proofs.Runs.{sources-never-halt}
use Rattle.run_laws.proofs.laws.sources_never_halt.Goals as goal

pub returns : goal.returns
returns c = sources-never-halt
