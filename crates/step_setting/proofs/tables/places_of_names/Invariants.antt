use Rattle.std.proofs.Common.{◌≡◌, map, drop}
use Rattle.cxx_core.specs.ProgramView.{name_core}
use Rattle.step_setting.specs.Places.{places, with_places}
use Rattle.step_setting.proofs.tables.places_of_names.Given as goal

abbrev pub invariant-loop-name : goal.invariant-loop-name
invariant-loop-name l = with_places l.places (map name_core (drop l.name-index l.names)) ≡ places l.start (map name_core l.names)
