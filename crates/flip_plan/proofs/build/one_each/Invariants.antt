use Rattle.std.proofs.Common.{◌≡◌, ◌++◌, drop}
use Rattle.flip_plan.specs.Plans.{one_each}
use Rattle.flip_plan.proofs.build.one_each.Given as goal

abbrev pub invariant-loop-thread : goal.invariant-loop-thread
invariant-loop-thread l = l.runs ++ one_each (drop l.thread-index l.threads) ≡ one_each l.threads
