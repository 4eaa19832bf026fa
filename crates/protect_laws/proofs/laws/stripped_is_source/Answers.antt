use Rattle.protect_laws.proofs.Strip.{stripped-is-normal, stripped-is-source}
use Rattle.protect_laws.proofs.laws.stripped_is_source.Goals as goal

pub returns : goal.returns
returns c = record { normal = stripped-is-normal; source = stripped-is-source }
