use Rattle.std.proofs.Common.{◌+◌, refl, sym, subst}
use Rattle.flip_plan.specs.Steps.{Sums}
use Rattle.flip_plan.proofs.Sums.{sums_push}
use Rattle.flip_plan.proofs.runs.Runs.push.Goals as goal

pub invariant_of-self-2 : goal.invariant_of-self-2
invariant_of-self-2 c =
    let end = c.self.inside.total + c.args.count in
    subst (λ steps. Sums 0 steps end) (sym c.in_ok-push.ensures.items)
    (sums_push 0 c.self.inside.total c.self.inside.steps.items (record { thread = c.args.thread; count = c.args.count; end = end }) c.self.invariant refl)
