use Rattle.hamming_blocks.proofs.Elaboration.{hamming-elaborates}
use Rattle.hamming_blocks.proofs.laws.check_blocks_are_what_is_generated.Goals as goal

pub returns : goal.returns
returns c = hamming-elaborates
