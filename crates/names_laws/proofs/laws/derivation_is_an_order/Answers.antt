use Rattle.names_laws.proofs.Derivation.{derivation-is-order}
use Rattle.names_laws.proofs.laws.derivation_is_an_order.Goals as goal

pub returns : goal.returns
returns c = derivation-is-order
