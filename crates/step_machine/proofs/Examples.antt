-- The examples run as they are said to.
use Rattle.std.proofs.Common.{refl}
use Rattle.std.specs.Fmt.{digits}
use Rattle.step_machine.specs.Examples.{ExamplesRun}
use Rattle.step_machine.specs.WovenExample.{WovenExampleRuns}
use Rattle.step_machine.specs.MoreExamples.{MoreExamplesRun}

pub examples : ExamplesRun
unfolding digits
examples = record {
  of_sum = record { state = refl; output = refl; counts = refl };
  of_overflow = record { state = refl; output = refl; counts = refl };
  of_object = record { state = refl; output = refl; counts = refl };
  of_cell = record { state = refl; output = refl; counts = refl };
}

pub woven_runs : WovenExampleRuns
unfolding digits
woven_runs = record { state = refl; output = refl; counts = refl }

pub more_run : MoreExamplesRun
unfolding digits
more_run = record {
  of_pair = record { state = refl; output = refl; counts = refl };
  of_deleted = record { state = refl; output = refl; counts = refl };
  of_too_deep = record { state = refl; output = refl; counts = refl };
  of_locked_twice = record { state = refl; output = refl; counts = refl };
  of_base = record { state = refl; output = refl; counts = refl };
}
