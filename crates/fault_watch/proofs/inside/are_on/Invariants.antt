use Rattle.std.proofs.Common.{◌≡◌, drop}
use Rattle.std.specs.List.{list_any}
use Rattle.fault_model.specs.Inside.{is_frame_on}
use Rattle.fault_watch.proofs.inside.are_on.Given as goal

abbrev pub invariant-loop-thread : goal.invariant-loop-thread
invariant-loop-thread l =
    list_any (list_any (is_frame_on l.setting l.object.0 l.class)) (drop l.thread-index l.threads) ≡
    list_any (list_any (is_frame_on l.setting l.object.0 l.class)) l.threads
