-- The turns that runs give.
use Rattle.std.proofs.Common.{◌≡◌, ℕ, ◌+◌, ◌-◌, ◌<◌, ◌≤◌, true, false, List, [], ◌∷◌, ◌++◌, length, zero, suc, Some, get_or, refl, sym, ap, ◌∙◌, subst, arith}
use Rattle.std.specs.Prelude.{nat_le, slice_get, option_map, if◌then◌else◌}
use Rattle.std.proofs.lemmas.Bool.{lt-ltb, le-ltb, leb-true, leb-false}
use Rattle.std.specs.List.{AllWithin}
use Rattle.std.specs.List.Sorted.{IsNonDecreasingBy, IsPartitionPoint}
use Rattle.flip_plan.specs.Plans.{total, thread_at}
use Rattle.flip_plan.specs.Steps.{run_of, runs_of, Sums}
use Rattle.flip_plan.specs.declared.runs.Step.{Step}

pub runs_push : (steps : List Step) (step : Step) → runs_of (steps ++ step ∷ []) ≡ runs_of steps ++ run_of step ∷ []
runs_push [] step = refl
runs_push (s ∷ steps) step = ap (λ rs. run_of s ∷ rs) (runs_push steps step)

pub sums_push : (start sum : ℕ) (steps : List Step) (step : Step) → Sums start steps sum → step.end ≡ sum + step.count → Sums start (steps ++ step ∷ []) step.end
sums_push start sum [] step h e = (subst (λ s. step.end ≡ s + step.count) (sym h) e, refl)
sums_push start sum (s ∷ steps) step h e = (h.0, sums_push s.end sum steps step h.1 e)

total-from : (start sum : ℕ) (steps : List Step) → Sums start steps sum → start + total (runs_of steps) ≡ sum
total-from start sum [] h = omega (arith, h)
total-from start sum (s ∷ steps) h =
    let rest : s.end + total (runs_of steps) ≡ sum = total-from s.end sum steps h.1 in omega (arith, rest, h.0)

pub total_is : (sum : ℕ) (steps : List Step) → Sums 0 steps sum → total (runs_of steps) ≡ sum
total_is sum steps h = omega (arith, total-from 0 sum steps h)

-- the run in which a turn lies is the one behind those that end before it
pub thread_found : (start index sum place : ℕ) (steps : List Step) → Sums start steps sum → start ≤ index
    → AllWithin (λ s. s.end ≤ index) steps 0 place → AllWithin (λ s. index < s.end) steps place (length steps)
    → thread_at (runs_of steps) (index - start) ≡ option_map (λ s. s.thread) (slice_get steps place)
thread_found start index sum place [] h l before behind = refl
thread_found start index sum zero (s ∷ steps) h l before behind =
    let below : index < s.end = behind 0 s (omega arith) (omega arith) in
    let inside : index - start < s.count = omega (arith, below, h.0, l) in
    ap (λ b. if b then Some s.thread else thread_at (runs_of steps) (index - start - s.count)) (lt-ltb (index - start) s.count inside)
thread_found start index sum (suc place) (s ∷ steps) h l before behind =
    let past : s.end ≤ index = before 0 s (omega arith) (omega arith) in
    let outside : s.count ≤ index - start = omega (arith, past, h.0, l) in
    let rest : index - start - s.count ≡ index - s.end = omega (arith, past, h.0, l) in
    ap (λ b. if b then Some s.thread else thread_at (runs_of steps) (index - start - s.count)) (le-ltb (index - start) s.count outside)
    ∙ ap (thread_at (runs_of steps)) rest
    ∙ thread_found s.end index sum place steps h.1 past (λ k d a b. before (suc k) d (omega arith) (omega (arith, b))) (λ k d a b. behind (suc k) d (omega (arith, a)) (omega (arith, b)))

least-end : (start sum k : ℕ) (steps : List Step) (d : Step) → Sums start steps sum → k < length steps → start ≤ (get_or steps k d).end
least-end start sum k [] d h l = absurd (omega (arith, l))
least-end start sum zero (s ∷ steps) d h l = omega (arith, h.0)
least-end start sum (suc k) (s ∷ steps) d h l = omega (arith, h.0, least-end s.end sum k steps d h.1 (omega (arith, l)))

pub ends_rise : (start sum : ℕ) (steps : List Step) → Sums start steps sum → IsNonDecreasingBy (λ s. s.end) steps
ends_rise start sum [] h i j d l m = absurd (omega (arith, m))
ends_rise start sum (s ∷ steps) h zero zero d l m = omega arith
ends_rise start sum (s ∷ steps) h zero (suc j) d l m = least-end s.end sum j steps d h.1 (omega (arith, m))
ends_rise start sum (s ∷ steps) h (suc i) zero d l m = absurd (omega (arith, l))
ends_rise start sum (s ∷ steps) h (suc i) (suc j) d l m = ends_rise s.end sum steps h.1 i j d (omega (arith, l)) (omega (arith, m))

-- the same, by what a binary search tells
pub thread_at_point : (index sum place : ℕ) (steps : List Step) → Sums 0 steps sum → IsPartitionPoint (λ s. nat_le s.end index ≡ true) (λ s. nat_le s.end index ≡ false) steps place
    → thread_at (runs_of steps) index ≡ option_map (λ s. s.thread) (slice_get steps place)
thread_at_point index sum place steps h p =
    ap (thread_at (runs_of steps)) (omega arith) ∙ thread_found 0 index sum place steps h (omega arith) (λ k d a b. leb-true _ _ (p.0 k d a b)) (λ k d a b. leb-false _ _ (p.1 k d a b))
