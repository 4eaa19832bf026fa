use Rattle.cxx_arith.proofs.Range.{apply_in_range, apply_one_in_range, convert_in_range}
use Rattle.cxx_arith.proofs.laws.results_are_in_range.Goals as goal

pub returns : goal.returns
returns c = record { of_two = apply_in_range; of_one = apply_one_in_range; converted = convert_in_range }
