use Rattle.std.proofs.Common.{Some, sym, ◌∙◌}
use Rattle.plan_runs.proofs.Lasting.{fewer-wait}
use Rattle.plan_runs.proofs.Wakings.{wakes-more, part-led}
use Rattle.plan_runs.proofs.wake.wake_part.Goals as goal

pub loop-flip-smaller : goal.loop-flip-smaller
loop-flip-smaller g c =
    fewer-wait c.args.object.0 (Some c.args.class) c.in-Some.flip c.args.watch.now c.loop-flip.watch c.take_first.new.self c.let_be_due.new.self
    c.loop-flip.invariant c.in-Some.ensures c.in_ok-let_be_due.ensures

pub loop-flip-preserved : goal.loop-flip-preserved
loop-flip-preserved g c =
    wakes-more c.args.object.0 (Some c.args.class) c.in-Some.flip c.args.watch.now c.loop-flip.watch c.take_first.new.self c.let_be_due.new.self
    c.loop-flip.invariant c.in-Some.ensures c.in_ok-let_be_due.ensures

pub returns-then-inverts : goal.returns-then-inverts
returns-then-inverts g c =
    part-led c.args.engine.now c.args.object.0 c.args.class c.in-Some.flip c.args.watch.now c.loop-flip.watch c.take_first.new.self
    c.let_be_due.new.self c.loop-flip.invariant c.in-Some.ensures c.in_ok-let_be_due.ensures (sym c.inverts.ensures ∙ c.if-inverts.true)
