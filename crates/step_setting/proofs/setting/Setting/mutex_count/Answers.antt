use Rattle.step_setting.proofs.LookUps.{mutex_count_is}
use Rattle.step_setting.proofs.setting.Setting.mutex_count.Goals as goal

pub returns : goal.returns
returns c = rw (c.sizes_at.ensures, c.as_slice.ensures, ← c.self.view_is) (mutex_count_is c.self.invariant c.args.class)
