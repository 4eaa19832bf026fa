use Rattle.std.proofs.Common.{refl}
use Rattle.fault_watch.proofs.Firsts.{taken, none-waits}
use Rattle.fault_watch.proofs.Waits.{own-removed}
use Rattle.fault_watch.proofs.waiting.Waiting.take_first.Goals as goal

pub invariant_of-self : goal.invariant_of-self
invariant_of-self c = rw c.remove.ensures.entries (own-removed _ _ c.self.invariant)

pub returns-in-Some : goal.returns-in-Some
returns-in-Some c =
    rw (← c.self.view_is) (taken c.args.object.0 c.args.class c.self.inside.lines c.remove.new.self c.in-Some.spot c.remove.result c.self.invariant (invariant_of-self c) c.in-Some.ensures c.remove.ensures.value c.remove.ensures.updates.0)

pub returns-in-None : goal.returns-in-None
returns-in-None c =
    (refl, rw (← c.self.view_is) (none-waits c.args.object.0 c.args.class c.self.inside.lines c.self.invariant c.in-None.ensures))
