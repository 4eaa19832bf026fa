use Rattle.std.proofs.Common.{◌≡◌, ◌↔◌, subst}
use Rattle.std.specs.Prelude.{IsTrue}
use Rattle.fault_lines.specs.Waiting.{NoLineWaits}
use Rattle.plan_runs.specs.Watches.{Watched}
use Rattle.plan_runs.proofs.watch.Watch.waits_for_none.Goals as goal

pub returns : goal.returns
returns c = subst (λ (w : Watched). IsTrue c.is_empty.result ↔ NoLineWaits w.queues.waiting) c.self.view_is c.is_empty.ensures
