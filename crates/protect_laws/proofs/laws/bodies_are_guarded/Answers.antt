use Rattle.protect_laws.proofs.Bodies.{bodies-are-guarded}
use Rattle.protect_laws.proofs.laws.bodies_are_guarded.Goals as goal

pub returns : goal.returns
returns c = bodies-are-guarded
