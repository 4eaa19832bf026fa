use Rattle.std.proofs.Common.{sym}
use Rattle.fault_watch.proofs.Insides.{inside-on}
use Rattle.fault_watch.proofs.inside.are_inside.Goals as goal

pub returns : goal.returns
returns g c =
    rw (c.are_on.ensures, c.setting.ensures, c.threads.ensures) (sym (inside-on c.args.engine.now c.args.object.0 c.args.class))
