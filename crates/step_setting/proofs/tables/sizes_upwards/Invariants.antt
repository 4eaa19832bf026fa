use Rattle.std.proofs.Common.{◌≡◌, map}
use Rattle.cxx_core.specs.ProgramView.{class_core}
use Rattle.step_machine.specs.Setting.{chain}
use Rattle.step_setting.specs.Tables as spec
use Rattle.step_setting.proofs.tables.sizes_upwards.Given as goal

abbrev pub invariant-loop-left : goal.invariant-loop-left
invariant-loop-left l =
    spec.with_classes l.found (chain (map class_core l.classes) l.left l.next) ≡
    spec.with_classes l.fn.sizes (chain (map class_core l.classes) l.steps l.fn.class)

abbrev pub decreases-loop-left : goal.decreases-loop-left
decreases-loop-left l = l.left
