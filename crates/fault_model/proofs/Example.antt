-- The example runs as it is said to.
use Rattle.std.proofs.Common.{refl}
use Rattle.std.specs.Fmt.{digits}
use Rattle.step_machine.specs.Total.{same}
use Rattle.step_machine.specs.Flips.{flipped_of}
use Rattle.fault_model.specs.Example.{Stays, Rows, Flips, WholeRuns, TwoThreadsRun}

stays : Stays
unfolding digits same flipped_of
stays = record {
  at_start = refl;
  constructing = refl;
  has_entered = refl;
  has_left = refl;
  constructed = refl;
  entering = refl;
  first_entered = refl;
  second_left = refl;
  leaving = refl;
  nobody = refl;
}

rows : Rows
unfolding digits same flipped_of
rows = record {
  at_start = refl;
  in_constructor = refl;
  constructed = refl;
  asks = refl;
  blocked = refl;
  first_entered = refl;
  second_entered = refl;
  second_left = refl;
}

flips : Flips
unfolding digits same flipped_of
flips = record {
  with_nobody_inside = refl;
  second_in_part = refl;
  second_after_none = refl;
  with_somebody_inside = refl;
  on_dead_object = refl;
}

runs : WholeRuns
unfolding digits same flipped_of
runs = record { of_one = refl; of_two = refl; of_inside = refl; of_free = refl; waits = refl; falls = refl }

pub two_threads_run : TwoThreadsRun
two_threads_run = record { stays = stays; rows = rows; flips = flips; runs = runs }
