use Rattle.std.proofs.Common.{◌≡◌, drop}
use Rattle.step_machine.specs.Frame.{any_on}
use Rattle.step_frame.proofs.thread.any_on.Given as goal

abbrev pub invariant-loop-thread : goal.invariant-loop-thread
invariant-loop-thread l = any_on l.object.0 l.threads ≡ any_on l.object.0 (drop l.thread-index l.threads)
