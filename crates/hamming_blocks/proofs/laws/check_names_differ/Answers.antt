use Rattle.hamming_blocks.proofs.Names.{hamming-names-differ}
use Rattle.hamming_blocks.proofs.laws.check_names_differ.Goals as goal

pub returns : goal.returns
returns c = hamming-names-differ
