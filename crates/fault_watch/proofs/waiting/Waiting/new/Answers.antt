use Rattle.fault_watch.proofs.Waits.{nothing-waits}
use Rattle.fault_watch.proofs.waiting.Waiting.new.Goals as goal

pub returns : goal.returns
returns c = λ o k n. rw c.new.ensures.empty (nothing-waits o k n)
