use Rattle.step_machine.proofs.Turns.{agree}
use Rattle.step_machine.proofs.laws.lists_and_functions_agree.Goals as goal

pub returns : goal.returns
returns c = agree
