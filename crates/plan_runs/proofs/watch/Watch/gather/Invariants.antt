use Rattle.std.proofs.Common.{◌≡◌, length}
use Rattle.fault_lines.specs.Due.{with_all}
use Rattle.fault_lines.specs.Moments.{first_of, rest_of}
use Rattle.plan_runs.proofs.watch.Watch.gather.Given as goal

abbrev pub invariant-loop-flip : goal.invariant-loop-flip
invariant-loop-flip l = record {
  lines : with_all (first_of l.turn l.self.queues.left) l.self.queues.due
      ≡ with_all (first_of l.turn l.initial.self.queues.left) l.initial.self.queues.due;
  left : rest_of l.turn l.self.queues.left ≡ rest_of l.turn l.initial.self.queues.left;
  all_else : l.self ≡ record (l.initial.self) { queues = record (l.initial.self.queues) { left = l.self.queues.left; due = l.self.queues.due } };
}

abbrev pub decreases-loop-flip : goal.decreases-loop-flip
decreases-loop-flip l = length (first_of l.turn l.self.queues.left)
