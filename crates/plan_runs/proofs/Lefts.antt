-- What is left of flips that stand by their moments.
use Rattle.std.proofs.Common.{◌≡◌, ◌≤◌, ◌<◌, ◌+◌, ℕ, zero, suc, true, false, nat_eq, List, [], ◌∷◌, get_or, refl, sym, ap, ◌∙◌, subst, arith, inl, inr, suc-le-suc, zero-le}
use Rattle.std.specs.List.{All}
use Rattle.std.specs.List.Sorted.{ties, IsNonDecreasingBy, IsSortedByKey, IsStableByKey}
use Rattle.std.specs.Ordering.{is_lt, nat_cmp}
use Rattle.std.proofs.lemmas.Bool.{cond-true, cond-false, cases_Bool}
use Rattle.std.proofs.lemmas.Bool.Decides.{nat_tests}
use Rattle.std.proofs.lemmas.List.Elements.{filter_agree}
use Rattle.std.proofs.lemmas.List.Sorted.{IsNonDecreasingBy-from_sort}
use Rattle.flip_plan.specs.declared.flip.PlannedFlip.{PlannedFlip}
use Rattle.plan_runs.specs.Flips.{falling, IsLeft}

abbrev pub moment : PlannedFlip → ℕ
moment f = f.moment

-- ---- the flips of a plan by their moments

ties_at : (m n : ℕ) → ties (λ x y. is_lt (nat_cmp x y)) m n ≡ nat_eq n m
ties_at m n = grind (arith, nat_tests)

at_moment : ℕ → PlannedFlip
at_moment m = record { moment = m; object = record { 0 = 0 }; word = 0; bit = 0; number = 0; waits = false }

pub left_from_sort : (flips sorted : List PlannedFlip) → IsSortedByKey moment nat_cmp sorted → IsStableByKey moment nat_cmp flips sorted → IsLeft flips 0 sorted
unfolding at_moment
left_from_sort flips sorted rises stable =
    let agree = λ (m : ℕ) (l : List PlannedFlip). filter_agree (λ g. nat_eq g.moment m) (ties (λ x y. is_lt (nat_cmp (moment x) (moment y))) (at_moment m)) (λ g. sym (ties_at m g.moment)) l in
    record {
      rises = IsNonDecreasingBy-from_sort moment sorted rises;
      ahead = λ k d lt. zero-le;
      same = λ later le. agree later sorted ∙ stable (at_moment later) ∙ sym (agree later flips);
    }
