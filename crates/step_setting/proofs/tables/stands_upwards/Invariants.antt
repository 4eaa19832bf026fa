use Rattle.std.proofs.Common.{◌≡◌, Some, map}
use Rattle.cxx_core.specs.ProgramView.{class_core}
use Rattle.step_machine.specs.Setting.{line_in, stands_in}
use Rattle.step_setting.proofs.tables.stands_upwards.Given as goal

abbrev pub invariant-loop-left : goal.invariant-loop-left
invariant-loop-left l =
    stands_in (Some l.class) (line_in (map class_core l.classes) l.left l.next) ≡
    stands_in (Some l.class) (line_in (map class_core l.classes) l.steps l.fn.own)

abbrev pub decreases-loop-left : goal.decreases-loop-left
decreases-loop-left l = l.left
