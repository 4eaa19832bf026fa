use Rattle.step_setting.proofs.LookUps.{global_object_is}
use Rattle.step_setting.proofs.setting.Setting.global_object.Goals as goal

pub returns : goal.returns
returns c = rw (c.number.ensures, ← c.self.view_is) (global_object_is c.self.invariant c.args.name.0)
