use Rattle.std.proofs.Common.{arith, ◌≤◌, ◌<◌, length, ap, ◌∙◌}
use Rattle.std.proofs.lemmas.List.{length-drop}
use Rattle.agxx_base.proofs.Pieces.{behind}
use Rattle.agxx_base.proofs.Sinks.{appended-more}
use Rattle.agxx_base.proofs.whole.write_whole.Goals as goal

pub loop-done-preserved : goal.loop-done-preserved
loop-done-preserved g c =
    let count = c.in_ok-done.ensures.takes.count in
    let ahead = ap length (behind c.loop-done.done c.args.bytes.now) ∙ length-drop c.loop-done.done c.args.bytes.now in
    let few : c.in_ok-done.field-0 ≤ 4096 = omega (arith, count.0, c.fill.ensures.len) in
    let some : 0 < c.in_ok-done.field-0 = count.1 (omega (arith, c.fill.ensures.len, ahead)) in
    record {
      within = omega (arith, count.0, c.fill.ensures.len, ahead);
      taken = appended-more _ _ _ _ _ _ _ c.loop-done.invariant.taken c.fill.ensures.bytes few c.in_ok-done.ensures.takes.appends;
      faults = omega (arith, c.in_ok-done.ensures.cause.later);
      writes = omega (arith, c.in_ok-done.ensures.writes);
    }
