use Rattle.codec_laws.proofs.CopyRuns.{copies-run}
use Rattle.codec_laws.proofs.laws.blocks_do_what_they_mean.Goals as goal

pub returns : goal.returns
returns c = copies-run
