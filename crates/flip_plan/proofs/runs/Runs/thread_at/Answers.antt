use Rattle.std.proofs.Common.{sym, subst}
use Rattle.std.specs.List.Sorted.{IsNonDecreasingBy}
use Rattle.flip_plan.proofs.Sums.{ends_rise}
use Rattle.flip_plan.proofs.runs.Runs.thread_at.Goals as goal

pub ended_by-requires : goal.ended_by-requires
ended_by-requires c =
    subst (λ steps. IsNonDecreasingBy (λ step. step.end) steps) (sym c.as_slice-steps.ensures.value) (ends_rise 0 c.self.inside.total c.self.inside.steps.items c.self.invariant)
