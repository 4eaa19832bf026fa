use Rattle.codec_laws.proofs.Values.{copies-keep-values}
use Rattle.codec_laws.proofs.laws.copies_keep_values.Goals as goal

pub returns : goal.returns
returns c = copies-keep-values
