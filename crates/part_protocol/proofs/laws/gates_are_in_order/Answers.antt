use Rattle.part_protocol.proofs.Order.{gates-in-order}
use Rattle.part_protocol.proofs.laws.gates_are_in_order.Goals as goal

pub returns : goal.returns
returns c = gates-in-order
