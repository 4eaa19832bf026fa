use Rattle.std.proofs.Common.{◌≡◌, ◌≤◌, length, reverse, take}
use Rattle.step_machine.specs.Frame.{are_on}
use Rattle.step_frame.proofs.thread.Thread.is_on.Given as goal

abbrev pub invariant-loop-index : goal.invariant-loop-index
invariant-loop-index l = (l.index ≤ length l.frames) × (are_on l.object.0 l.self ≡ are_on l.object.0 (reverse (take l.index l.frames)))

abbrev pub decreases-loop-index : goal.decreases-loop-index
decreases-loop-index l = l.index
