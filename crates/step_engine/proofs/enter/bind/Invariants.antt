use Rattle.std.proofs.Common.{◌≡◌, ◌≤◌, length, drop, map}
use Rattle.cxx_core.specs.ProgramView.{param_core}
use Rattle.step_machine.specs.Frame.{bind_all}
use Rattle.step_engine.proofs.enter.bind.Given as goal

abbrev pub invariant-loop-index : goal.invariant-loop-index
invariant-loop-index l =
    (l.index ≤ length l.params) × ((l.values, l.locals) ≡ bind_all (map param_core (drop l.index l.params)) (l.initial.values, l.initial.locals))

abbrev pub decreases-loop-index : goal.decreases-loop-index
decreases-loop-index l = l.index
