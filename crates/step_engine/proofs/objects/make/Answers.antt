use Rattle.std.proofs.Common.{sym, ◌∙◌}
use Rattle.step_frame.specs.Outcomes.{local_effect}
use Rattle.step_machine.specs.World.{class_at}
use Rattle.step_engine.specs.Effects.{effect_of}
use Rattle.step_engine.specs.Steps.{acted, depth_in}
use Rattle.step_engine.proofs.Makes.{made}
use Rattle.step_engine.proofs.objects.make.Goals as goal

pub returns-in_ok-evaluate_all-in-len1-up : goal.returns-in_ok-evaluate_all-in-len1-up
unfolding acted
returns-in_ok-evaluate_all-in-len1-up g c =
    made c.args.arguments.now c.in-len1-up.len_at_least c.args.turning.now.setting (depth_in c.args.turning.now) (class_at c.args.turning.now.world)
    c.args.at c.args.object.0 c.args.class c.in-Some.field-0 c.args.frame.now
    (class_at c.args.turning.now.world c.args.object.0) (sym c.class.ensures ∙ c.in-Some.is)
    c.evaluate_all.new.self (effect_of c.local.result) (local_effect c.in_ok-evaluate_all-in-len1-up.field-0) c.local.ensures c.in_ok-evaluate_all-in-len1-up.ensures
