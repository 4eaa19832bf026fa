use Rattle.sum_programs.proofs.Example.{example}
use Rattle.sum_programs.proofs.Laws.{sums_are_printed}
use Rattle.sum_programs.proofs.sums_are_printed.Goals as goal

pub returns-clause-laws : goal.returns-clause-laws
returns-clause-laws c = sums_are_printed

pub returns-clause-example : goal.returns-clause-example
returns-clause-example c = example
