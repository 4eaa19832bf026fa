use Rattle.core_laws.proofs.Examples.{elaborated, wider_elaborated}
use Rattle.core_laws.proofs.laws.examples_elaborate.Goals as goal

pub returns-clause-small : goal.returns-clause-small
returns-clause-small c = elaborated

pub returns-clause-wider : goal.returns-clause-wider
returns-clause-wider c = wider_elaborated
