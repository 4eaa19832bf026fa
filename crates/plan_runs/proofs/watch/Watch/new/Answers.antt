use Rattle.std.proofs.Common.{◌≡◌, refl}
use Rattle.plan_runs.proofs.watch.Watch.new.Goals as goal

pub returns : goal.returns
returns c = record {
  left = c.in_ok-by_moment.ensures.left;
  numbered = c.in_ok-by_moment.ensures.numbered;
  none_due = c.new.ensures;
  none_waits = c.new-2.ensures;
  no_marks_yet = c.new-3.ensures;
  verdict = refl;
  flips = refl;
  counts = c.new-4.ensures;
  erased = c.new-5.ensures;
}
