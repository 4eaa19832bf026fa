use Rattle.part_protocol.proofs.Parts.{parts-right}
use Rattle.part_protocol.proofs.laws.parts_are_right.Goals as goal

pub returns : goal.returns
returns c = parts-right
