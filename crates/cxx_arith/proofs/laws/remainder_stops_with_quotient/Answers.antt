use Rattle.cxx_arith.proofs.Stops.{stops_together}
use Rattle.cxx_arith.proofs.laws.remainder_stops_with_quotient.Goals as goal

pub returns : goal.returns
returns c = stops_together
