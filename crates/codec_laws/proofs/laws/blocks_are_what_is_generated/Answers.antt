use Rattle.codec_laws.proofs.Elaboration.{copies-elaborate}
use Rattle.codec_laws.proofs.laws.blocks_are_what_is_generated.Goals as goal

pub returns : goal.returns
returns c = copies-elaborate
