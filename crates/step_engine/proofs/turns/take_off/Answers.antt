use Rattle.std.proofs.Common.{refl}
use Rattle.std.proofs.lemmas.Option.{slice_get_read}
use Rattle.step_frame.specs.Works.{item_of}
use Rattle.step_engine.proofs.Offs.{off-some, idle, took-some, took-none}
use Rattle.step_engine.proofs.turns.take_off.Goals as goal

pub returns-in-None-clause-off : goal.returns-in-None-clause-off
returns-in-None-clause-off c =
    idle c.args.thread c.args.threads.now.items c.index_mut.result.now c.take.new.thread
    (slice_get_read c.args.threads.now.items _ c.args.thread c.index_mut.result.now refl c.requires c.index_mut.ensures.value)
    (took-none c.index_mut.result.now c.take.new.thread c.in_ok-take.field-0 c.in_ok-take.ensures c.in-None.is)

pub returns-in-Some-clause-off : goal.returns-in-Some-clause-off
returns-in-Some-clause-off c =
    off-some c.args.thread c.args.threads.now.items c.index_mut.result.now (item_of c.in-Some.taken.1) c.in-Some.taken.0 c.take.new.thread
    (slice_get_read c.args.threads.now.items _ c.args.thread c.index_mut.result.now refl c.requires c.index_mut.ensures.value)
    (took-some c.index_mut.result.now c.take.new.thread c.in_ok-take.field-0 c.in-Some.taken c.in_ok-take.ensures c.in-Some.is)
