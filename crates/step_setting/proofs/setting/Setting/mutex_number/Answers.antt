use Rattle.step_setting.proofs.LookUps.{mutex_number_is}
use Rattle.step_setting.proofs.setting.Setting.mutex_number.Goals as goal

pub returns : goal.returns
returns c = rw (c.mutex_at.ensures, c.as_slice.ensures, ← c.self.view_is) (mutex_number_is c.self.invariant c.args.class c.args.name.0)
