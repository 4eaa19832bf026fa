use Rattle.ghost_state.proofs.Answers.{answers-are-turns}
use Rattle.ghost_state.proofs.laws.answers_are_turns.Goals as goal

pub returns : goal.returns
returns c = answers-are-turns
