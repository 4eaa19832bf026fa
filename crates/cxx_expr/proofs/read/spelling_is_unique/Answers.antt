use Rattle.cxx_expr.proofs.Whole.{spelling-unique}
use Rattle.cxx_expr.proofs.read.spelling_is_unique.Goals as goal

pub returns : goal.returns
returns c = spelling-unique
