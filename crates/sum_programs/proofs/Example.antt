-- The example is a program that prints a sum.
use Rattle.std.proofs.Common.{refl, lit<, lit≤}
use Rattle.std.specs.Fmt.{digits}
use Rattle.std.specs.Prelude.{[], ◌∷◌}
use Rattle.std.proofs.lemmas.List.Elements.{All-nil, All-cons}
use Rattle.sum_programs.specs.SumPrograms.{sum, Fits, PrintFits}
use Rattle.sum_programs.specs.Example.{two, plus_three, text, print, ExampleIsOne}

pub example : ExampleIsOne
unfolding digits
example = record {
  setting = refl;
  limits = record { sums = All-cons PrintFits print [] (All-cons Fits (sum two (plus_three ∷ [])) (text ∷ []) (lit< tt) (All-cons Fits text [] tt (All-nil Fits))) (All-nil PrintFits); output = lit≤ tt };
  output = refl;
  steps = refl;
}
