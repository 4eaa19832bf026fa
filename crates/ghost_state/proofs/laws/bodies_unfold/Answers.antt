use Rattle.ghost_state.proofs.Bodies.{bodies-unfold}
use Rattle.ghost_state.proofs.laws.bodies_unfold.Goals as goal

pub returns : goal.returns
returns c = bodies-unfold
