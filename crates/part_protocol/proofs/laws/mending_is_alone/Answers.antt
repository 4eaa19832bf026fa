use Rattle.part_protocol.proofs.Order.{mending-alone}
use Rattle.part_protocol.proofs.laws.mending_is_alone.Goals as goal

pub returns : goal.returns
returns c = mending-alone
