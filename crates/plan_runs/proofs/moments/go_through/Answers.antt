use Rattle.plan_runs.proofs.Falls.{leads-on, due-alone, counts-stay}
use Rattle.plan_runs.proofs.moments.go_through.Goals as goal

pub loop-flip-preserved : goal.loop-flip-preserved
loop-flip-preserved g c = record {
  goes = leads-on c.args.engine.now c.args.watch.now c.loop-flip.engine c.loop-flip.watch c.next_due.new.self c.loop-flip.kept.items
      c.in-Some.flip c.go.new.engine c.go.new.watch c.go.new.kept.items c.loop-flip.invariant.goes c.in-Some.ensures.0 c.in-Some.ensures.1 c.in_ok-go.ensures;
  counts = counts-stay c.args.watch.now c.loop-flip.engine c.loop-flip.watch c.next_due.new.self c.loop-flip.kept.items c.in-Some.flip
      c.go.new.engine c.go.new.watch c.go.new.kept.items c.loop-flip.invariant.counts c.in-Some.ensures.1 c.in_ok-go.ensures;
  queues = due-alone c.args.watch.now.queues c.loop-flip.engine c.loop-flip.watch c.next_due.new.self c.loop-flip.kept.items c.in-Some.flip
      c.go.new.engine c.go.new.watch c.go.new.kept.items c.loop-flip.invariant.queues c.in-Some.ensures.1 c.in_ok-go.ensures;
}
