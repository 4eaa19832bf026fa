use Rattle.std.proofs.Common.{◌≡◌, ◌≤◌, length, map, drop}
use Rattle.cxx_core.specs.ProgramView.{global_core}
use Rattle.step_engine.specs.Starts.{with_globals}
use Rattle.step_engine.proofs.start.add_all.Given as goal

abbrev pub invariant-loop-global : goal.invariant-loop-global
invariant-loop-global g l =
    (with_globals l.setting (map global_core (drop l.global-index l.globals)) l.world ≡ with_globals l.setting (map global_core l.globals) l.initial.world)
    × (length l.world.objects ≤ 65536)
