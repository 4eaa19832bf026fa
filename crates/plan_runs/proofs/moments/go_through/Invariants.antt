use Rattle.std.proofs.Common.{◌≡◌, length}
use Rattle.plan_runs.specs.Watches.{LeadsTo}
use Rattle.plan_runs.proofs.moments.go_through.Given as goal

abbrev pub invariant-loop-flip : goal.invariant-loop-flip
invariant-loop-flip g l = record {
  goes : LeadsTo l.initial.engine l.initial.watch l.engine l.watch l.kept.items;
  counts : l.watch.counts ≡ l.initial.watch.counts;
  queues : l.watch.queues ≡ record (l.initial.watch.queues) { due = l.watch.queues.due };
}

abbrev pub decreases-loop-flip : goal.decreases-loop-flip
decreases-loop-flip g l = length l.watch.queues.due
