use Rattle.hamming_laws.proofs.Masks.{masks-are-places}
use Rattle.hamming_laws.proofs.laws.masks_are_places.Goals as goal

pub returns : goal.returns
returns c = masks-are-places
