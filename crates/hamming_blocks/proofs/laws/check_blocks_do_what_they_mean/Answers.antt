use Rattle.hamming_blocks.proofs.Runs.{hamming-run}
use Rattle.hamming_blocks.proofs.laws.check_blocks_do_what_they_mean.Goals as goal

pub returns : goal.returns
returns c = hamming-run
