use Rattle.step_setting.proofs.LookUps.{word_number_is}
use Rattle.step_setting.proofs.setting.Setting.word_number.Goals as goal

pub returns : goal.returns
returns c = rw (c.word_at.ensures, c.as_slice.ensures, ← c.self.view_is) (word_number_is c.self.invariant c.args.class c.args.name.0)
