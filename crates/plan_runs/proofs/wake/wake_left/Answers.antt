use Rattle.plan_runs.proofs.WokenLefts.{left-no-top, left-no-object, left-inside}
use Rattle.plan_runs.proofs.wake.wake_left.Goals as goal

pub returns-in_default : goal.returns-in_default
returns-in_default g c = left-no-top c.args.engine.now c.args.thread c.args.top c.args.watch.now c.in_default.is

pub returns-in_default-object : goal.returns-in_default-object
returns-in_default-object g c =
    left-no-object c.args.engine.now c.args.thread c.args.top c.args.watch.now c.in-Some.top c.in-Some.is c.in_default-object.is

pub returns-then-depth_of-top : goal.returns-then-depth_of-top
returns-then-depth_of-top g c =
    left-inside c.args.engine.now c.args.thread c.args.top c.args.watch.now c.in-Some.top c.depth_of.result c.in-Some.is c.depth_of.ensures
    c.if-depth_of-top.true
