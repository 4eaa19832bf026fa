use Rattle.hamming_laws.proofs.Places.{places-mend}
use Rattle.hamming_laws.proofs.laws.places_mend.Goals as goal

pub returns : goal.returns
returns c = places-mend
