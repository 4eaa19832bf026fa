use Rattle.std.proofs.Common.{◌∙◌, sym}
use Rattle.fault_watch.proofs.Waits.{nil-is-none, none-is-nil, no-entries, no-waiters}
use Rattle.fault_watch.proofs.waiting.Waiting.is_empty.Goals as goal

pub returns : goal.returns
returns c =
    (λ e. nil-is-none _ (sym c.self.view_is ∙ no-waiters _ (c.is_empty.ensures.0 e)), λ none. c.is_empty.ensures.1 (no-entries _ (c.self.view_is ∙ none-is-nil _ none)))
