use Rattle.std.proofs.Common.{None}
use Rattle.plan_runs.proofs.Lasting.{fewer-wait}
use Rattle.plan_runs.proofs.Wakings.{wakes-more}
use Rattle.plan_runs.proofs.wake.wake_object.Goals as goal

pub loop-flip-smaller : goal.loop-flip-smaller
loop-flip-smaller c =
    fewer-wait c.args.object.0 None c.in-Some.flip c.args.watch.now c.loop-flip.watch c.take_first.new.self c.let_be_due.new.self
    c.loop-flip.invariant c.in-Some.ensures c.in_ok-let_be_due.ensures

pub loop-flip-preserved : goal.loop-flip-preserved
loop-flip-preserved c =
    wakes-more c.args.object.0 None c.in-Some.flip c.args.watch.now c.loop-flip.watch c.take_first.new.self c.let_be_due.new.self
    c.loop-flip.invariant c.in-Some.ensures c.in_ok-let_be_due.ensures
