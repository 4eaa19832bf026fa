use Rattle.part_protocol.proofs.Parts.{parts-kept}
use Rattle.part_protocol.proofs.laws.parts_are_kept.Goals as goal

pub returns : goal.returns
returns c = parts-kept
