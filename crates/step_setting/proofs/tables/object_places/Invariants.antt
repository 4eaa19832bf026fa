use Rattle.std.proofs.Common.{◌≡◌, map, drop}
use Rattle.cxx_core.specs.ProgramView.{global_core}
use Rattle.step_setting.specs.Tables as spec
use Rattle.step_setting.proofs.tables.object_places.Given as goal

abbrev pub invariant-loop-global : goal.invariant-loop-global
invariant-loop-global l = spec.with_globals l.places (map global_core (drop l.global-index l.globals)) ≡ spec.object_places (map global_core l.globals)
