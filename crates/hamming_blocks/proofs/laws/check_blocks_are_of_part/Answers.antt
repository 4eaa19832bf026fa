use Rattle.hamming_blocks.proofs.OfPart.{hamming-is-of-part}
use Rattle.hamming_blocks.proofs.laws.check_blocks_are_of_part.Goals as goal

pub returns : goal.returns
returns c = hamming-is-of-part
