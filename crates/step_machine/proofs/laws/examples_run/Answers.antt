use Rattle.step_machine.proofs.Examples.{examples, woven_runs, more_run}
use Rattle.step_machine.proofs.laws.examples_run.Goals as goal

pub returns-clause-small : goal.returns-clause-small
returns-clause-small c = examples

pub returns-clause-woven : goal.returns-clause-woven
returns-clause-woven c = woven_runs

pub returns-clause-more : goal.returns-clause-more
returns-clause-more c = more_run
