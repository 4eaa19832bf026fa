use Rattle.protect_laws.proofs.Interned.{generated-are-known}
use Rattle.protect_laws.proofs.laws.generated_names_are_known.Goals as goal

pub returns : goal.returns
returns c = generated-are-known
