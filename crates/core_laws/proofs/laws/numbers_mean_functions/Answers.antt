use Rattle.core_laws.proofs.FunctionNumbers.{functions-stand}
use Rattle.core_laws.proofs.laws.numbers_mean_functions.Goals as goal

pub returns : goal.returns
returns c = functions-stand
