use Rattle.protect_laws.proofs.Fits.{protected-fits-woven}
use Rattle.protect_laws.proofs.laws.protected_fits_woven.Goals as goal

pub returns : goal.returns
returns c = protected-fits-woven
