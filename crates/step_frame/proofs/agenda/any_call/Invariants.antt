use Rattle.std.proofs.Common.{◌≡◌, ◌≤◌, length, reverse, take}
use Rattle.step_frame.specs.Agendas.{any_call}
use Rattle.step_frame.proofs.agenda.any_call.Given as goal

abbrev pub invariant-loop-index : goal.invariant-loop-index
invariant-loop-index l = (l.index ≤ length l.list) × (any_call l.setting l.entries ≡ any_call l.setting (reverse (take l.index l.list)))

abbrev pub decreases-loop-index : goal.decreases-loop-index
decreases-loop-index l = l.index
