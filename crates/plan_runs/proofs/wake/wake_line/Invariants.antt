use Rattle.std.proofs.Common.{map, ◌-◌}
use Rattle.cxx_core.specs.ProgramView.{class_core}
use Rattle.plan_runs.proofs.WokenLines.{WakesUpTo}
use Rattle.plan_runs.proofs.wake.wake_line.Given as goal

abbrev pub invariant-loop : goal.invariant-loop
invariant-loop g l =
    WakesUpTo l.engine l.object.0 (map class_core l.classes) l.end l.fn.own (l.end - l.counter) l.next l.initial.watch l.watch
