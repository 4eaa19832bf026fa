use Rattle.fault_model.proofs.Example.{two_threads_run}
use Rattle.fault_model.proofs.SourceExample.{source-follows}
use Rattle.fault_model.proofs.laws.example_runs.Goals as goal

pub returns-clause-woven : goal.returns-clause-woven
returns-clause-woven c = two_threads_run

pub returns-clause-source : goal.returns-clause-source
returns-clause-source c = source-follows
