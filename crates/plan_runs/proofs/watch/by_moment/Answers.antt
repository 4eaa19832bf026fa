use Rattle.std.proofs.Common.{◌≡◌, ◌∙◌, List, subst, rules}
use Rattle.std.proofs.lemmas.List.Sorted.{answers_always}
use Rattle.flip_plan.specs.declared.flip.PlannedFlip.{PlannedFlip}
use Rattle.plan_runs.specs.Flips.{IsLeft}
use Rattle.plan_runs.proofs.Lefts.{moment, left_from_sort}
use Rattle.plan_runs.proofs.watch.by_moment.Goals as goal

pub returns-clause-left : goal.returns-clause-left
returns-clause-left c =
    let copied : c.in_ok-flips.flips.items ≡ c.args.plan.now.flips = c.in_ok-flips.ensures.items ∙ c.flips.ensures.flips in
    let keys = answers_always _ _ _ (λ f a r next called. search rules) in
    let sorted = c.sort_by_key.new.self.items in
    subst (λ (l : List PlannedFlip). IsLeft l 0 sorted) copied
    (left_from_sort c.in_ok-flips.flips.items sorted (c.in_ok-sort_by_key.ensures.sorted moment keys) (c.in_ok-sort_by_key.ensures.stable moment keys))
