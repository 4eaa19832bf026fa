use Rattle.std.proofs.Common.{◌≡◌, ◌++◌, map, drop}
use Rattle.cxx_core.specs.ProgramView.{class_core}
use Rattle.step_setting.specs.Tables as spec
use Rattle.step_setting.proofs.tables.class_tables.Given as goal

abbrev pub invariant-loop-class : goal.invariant-loop-class
invariant-loop-class l =
    l.tables ++ map (spec.class_table (map class_core l.classes)) (map class_core (drop l.class-index l.classes)) ≡
    spec.class_tables (map class_core l.classes)
