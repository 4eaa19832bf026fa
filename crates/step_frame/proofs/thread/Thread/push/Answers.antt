use Rattle.std.proofs.Common.{length, ap, arith}
use Rattle.step_frame.proofs.Depths.{depth_most}
use Rattle.step_frame.proofs.thread.Thread.push.Goals as goal

pub deeper-self-inside-requires : goal.deeper-self-inside-requires
deeper-self-inside-requires c =
    omega (arith, depth_most c.self.inside.frames, c.self.invariant, c.len.ensures, ap length c.in_ok-push.ensures.ok)
