use Rattle.protect_laws.proofs.NormalDecls.{protected-is-normal}
use Rattle.protect_laws.proofs.laws.protected_is_normal.Goals as goal

pub returns : goal.returns
returns c = protected-is-normal
