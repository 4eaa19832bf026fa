use Rattle.std.proofs.Common.{refl}
use Rattle.fault_watch.proofs.Waits.{still-own, added}
use Rattle.fault_watch.proofs.waiting.Waiting.add.Goals as goal

pub invariant_of-self-2 : goal.invariant_of-self-2
invariant_of-self-2 c = rw c.in_ok-insert.ensures.entries (still-own _ c.args.flip _ (refl, refl) c.self.invariant)

pub returns-clause-added : goal.returns-clause-added
returns-clause-added c = λ o k n. rw (← c.self.view_is) (added _ _ c.args.class c.args.flip c.self.invariant (invariant_of-self-2 c) c.in_ok-insert.ensures.updates.0 o k n)
