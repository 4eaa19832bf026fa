use Rattle.plan_runs.proofs.Lasting.{lasting}
use Rattle.plan_runs.proofs.Wakings.{WakesSome}
use Rattle.plan_runs.proofs.wake.wake_part.Given as goal

abbrev pub invariant-loop-flip : goal.invariant-loop-flip
invariant-loop-flip g l = WakesSome l.initial.watch l.watch

abbrev pub decreases-loop-flip : goal.decreases-loop-flip
decreases-loop-flip g l = lasting l.initial.watch.queues.waiting l.watch.queues.waiting
