use Rattle.std.proofs.Common.{◌≡◌, length}
use Rattle.flip_plan.specs.Reading.{with_lines, nothing_planned, HasRoomFor}
use Rattle.flip_plan.specs.Texts.{lines_of}
use Rattle.flip_plan.proofs.read.plan_in.Given as goal

abbrev pub invariant-lines : goal.invariant-lines
invariant-lines l =
    (with_lines l.plan l.lines ≡ with_lines nothing_planned (lines_of 0 l.fn.text)) × HasRoomFor l.plan l.lines

abbrev pub decreases-lines : goal.decreases-lines
decreases-lines l = length l.lines
