use Rattle.cxx_lex.proofs.LargeNumbers.{large_numbers}
use Rattle.cxx_lex.proofs.laws.large_numbers_are_refused.Goals as goal

pub returns : goal.returns
returns c = large_numbers
