use Rattle.fault_model.specs.Inside.{is_frame_on}
use Rattle.fault_watch.proofs.Insides.{any-reverse}
use Rattle.fault_watch.proofs.inside.is_thread_on.Goals as goal

pub loop-frame-init : goal.loop-frame-init
loop-frame-init c =
    any-reverse (is_frame_on c.args.setting.now c.args.object.0 c.args.class) c.frames-frames.result.now c.args.thread.now c.frames-frames.ensures
