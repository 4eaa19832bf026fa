use Rattle.std.proofs.Common.{length, take, ◌-◌, ◌≡◌, ◌≤◌, ◌+◌}
use Rattle.agxx_base.specs.Sink.{appended}
use Rattle.agxx_base.proofs.whole.write_whole.Given as goal

abbrev pub invariant-loop-done : goal.invariant-loop-done
invariant-loop-done g l = record {
  within : l.done ≤ length l.bytes;
  taken : g.O.Sink.taken l.sink ≡ appended (g.O.Sink.taken l.initial.sink) (take l.done l.bytes);
  faults : g.O.Sink.faults l.initial.sink ≤ g.O.Sink.faults l.sink;
  writes : g.O.Sink.writes l.sink ≤ g.O.Sink.writes l.initial.sink + l.done;
}

abbrev pub decreases-loop-done : goal.decreases-loop-done
decreases-loop-done g l = length l.bytes - l.done
