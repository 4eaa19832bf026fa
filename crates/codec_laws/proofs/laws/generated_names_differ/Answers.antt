use Rattle.codec_laws.proofs.Names.{copies-names-differ}
use Rattle.codec_laws.proofs.laws.generated_names_differ.Goals as goal

pub returns : goal.returns
returns c = copies-names-differ
