use Rattle.flip_plan.proofs.Rooms.{room_for_one}
use Rattle.flip_plan.proofs.build.one_each.Goals as goal

pub push-requires : goal.push-requires
push-requires c = room_for_one c.loop-thread.runs _ c.args.threads.now c.loop-thread.invariant c.requires
