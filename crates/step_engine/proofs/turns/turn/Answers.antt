use Rattle.std.proofs.Common.{ap, ◌∙◌}
use Rattle.step_frame.specs.Works.{item_of}
use Rattle.step_engine.specs.Effects.{effect_of}
use Rattle.step_engine.specs.Steps.{acted}
use Rattle.step_engine.proofs.Offs.{turning, turned-ok}
use Rattle.step_engine.proofs.turns.turn.Goals as goal

pub returns-in_ok-effect-in-Some : goal.returns-in_ok-effect-in-Some
returns-in_ok-effect-in-Some g c =
    turned-ok c.args.setting.now c.args.world.now c.args.thread c.args.threads.now.items c.take_off.new.threads.items c.put.new.threads.items c.in_ok-take_off.field-0 c.in-Some.frame c.in-Some.work
    c.is_inserted-inserted.result (c.act.new.frame, effect_of c.in_ok-effect-in-Some.effect) c.put.result
    c.in_ok-take_off.ensures.off c.in-Some.is c.is_inserted-inserted.ensures (c.in_ok-effect-in-Some.ensures ∙ ap (λ ths. acted (turning c.args.setting.now c.args.world.now c.args.thread ths) (item_of c.in-Some.work) c.in-Some.frame) c.as_slice.ensures.value) c.put.ensures
