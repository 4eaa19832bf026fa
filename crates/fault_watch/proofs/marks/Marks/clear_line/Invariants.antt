use Rattle.std.proofs.Common.{◌≡◌, Some}
use Rattle.step_machine.specs.Setting.{line_in}
use Rattle.fault_lines.specs.Marks.{cleared}
use Rattle.fault_watch.specs.MarkSets.{has}
use Rattle.fault_watch.proofs.MarkSets.{without_line}
use Rattle.fault_watch.proofs.marks.Marks.clear_line.Given as goal

abbrev pub invariant-loop-left : goal.invariant-loop-left
invariant-loop-left l =
    without_line l.object.0 (line_in l.setting.program.classes l.left l.next) (has l.self) ≡
    cleared l.setting (Some l.object.0) l.fn.own (has l.initial.self)

abbrev pub decreases-loop-left : goal.decreases-loop-left
decreases-loop-left l = l.left
