use Rattle.std.proofs.Common.{◌≡◌, drop}
use Rattle.std.specs.List.{list_any}
use Rattle.fault_model.specs.Inside.{is_frame_on}
use Rattle.fault_watch.proofs.inside.is_thread_on.Given as goal

abbrev pub invariant-loop-frame : goal.invariant-loop-frame
invariant-loop-frame l =
    list_any (is_frame_on l.setting l.object.0 l.class) (drop l.frame-index l.frames) ≡
    list_any (is_frame_on l.setting l.object.0 l.class) l.thread
