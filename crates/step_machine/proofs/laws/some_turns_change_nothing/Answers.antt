use Rattle.step_machine.proofs.Still.{still}
use Rattle.step_machine.proofs.laws.some_turns_change_nothing.Goals as goal

pub returns : goal.returns
returns c = still
