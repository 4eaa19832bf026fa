use Rattle.steady_laws.proofs.Steps.{blocks-are-steady}
use Rattle.steady_laws.proofs.laws.blocks_are_steady.Goals as goal

pub returns : goal.returns
returns c = blocks-are-steady
