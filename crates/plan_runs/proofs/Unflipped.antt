-- A plan without flips runs as if they were set aside.
use Rattle.std.proofs.Common.{◌≡◌, ℕ, zero, suc, if◌then◌else◌, List, [], map, Bool, true, false, refl, ap, sym, subst, ◌∙◌, true≢false}
use Rattle.flip_plan.specs.Plans.{PlanMeaning, turn_of}
use Rattle.step_machine.specs.Machine.{Machine, next}
use Rattle.step_machine.specs.Runs.{Ran, counted, turn_taken, nothing_counted}
use Rattle.step_machine.specs.Total.{Total, NextOf, reading, next_of}
use Rattle.step_machine.proofs.Turns.{agree}
use Rattle.step_engine.specs.TurnRuns as engine
use Rattle.step_engine.specs.TurnRuns.{taken}
use Rattle.fault_model.specs.PlanLines.{line_of, fault_plan}
use Rattle.fault_model.specs.Progress.{Progress, after_lines, after_flips, with_turn, is_running, at_moment, passed, after_turns, before_first}
use Rattle.plan_runs.specs.Runs.{progress_at, unflipped}
use Rattle.plan_runs.specs.Laws.{IsUnflipped, RunsUnflipped}
use Rattle.plan_runs.proofs.Overs.{running-is, same-min}

-- no line is ahead
record Alike (p : Progress) (r : Ran) : Type 0 where
  total : p.total ≡ reading r.0
  counts : p.counts ≡ r.1
  flips : p.flips ≡ 0
  ahead : p.ahead ≡ []

next-to : (p : Progress) (r : Ran) (t : ℕ) → Alike p r → next_of p.total t ≡ (reading (next r.0 t).0, (next r.0 t).1)
next-to p r t h = ap (λ z. next_of z t) h.total ∙ sym (agree.of_next r.0 t)

nothing-falls : (i : ℕ) (p : Progress) → p.ahead ≡ [] → after_flips i p ≡ after_lines i [] p
nothing-falls i p e = ap (λ ls. after_lines i ls p) e

turn-alike : (i t : ℕ) (p : Progress) (r : Ran) → Alike p r → Alike (with_turn t (after_lines i [] p)) (turn_taken r.1 (next r.0 t))
turn-alike i t p r h =
    let n = next-to p r t h in
    record {
      total = ap (λ (x : NextOf). x.0) n;
      counts = ap (λ (x : NextOf). counted x.1 p.counts) n ∙ ap (counted (next r.0 t).1) h.counts;
      flips = h.flips;
      ahead = refl;
    }

moment-alike : (plan : PlanMeaning) (i : ℕ) (p : Progress) (r : Ran) → Alike p r
    → Alike (at_moment (fault_plan plan) i p) (turn_taken r.1 (next r.0 (turn_of plan i)))
moment-alike plan i p r h =
    subst (λ q. Alike (with_turn (turn_of plan i) q) (turn_taken r.1 (next r.0 (turn_of plan i)))) (sym (nothing-falls i p h.ahead))
    (turn-alike i (turn_of plan i) p r h)

passed-alike : (plan : PlanMeaning) (i : ℕ) (p : Progress) (r : Ran) → Alike p r
    → Alike (passed (fault_plan plan) i p) (taken (turn_of plan i) r)
passed-alike plan i p r h =
    subst (λ b. Alike (if b then at_moment (fault_plan plan) i p else p) (taken (turn_of plan i) r)) (sym same) (go (engine.is_running r.0.state))
  where
    same : is_running p.total.state ≡ engine.is_running r.0.state
    same = ap (λ (x : Total). is_running x.state) h.total ∙ running-is r.0.state

    go : (b : Bool) → Alike (if b then at_moment (fault_plan plan) i p else p) (if b then turn_taken r.1 (next r.0 (turn_of plan i)) else r)
    go true = moment-alike plan i p r h
    go false = h

turns-alike : (plan : PlanMeaning) (m : Machine) (n : ℕ) → plan.flips ≡ []
    → Alike (progress_at plan m n) (engine.after_turns (turn_of plan) (m, nothing_counted) n)
turns-alike plan m zero h = record { total = refl; counts = refl; flips = refl; ahead = ap (map line_of) h }
turns-alike plan m (suc n) h =
    passed-alike plan n (progress_at plan m n) (engine.after_turns (turn_of plan) (m, nothing_counted) n) (turns-alike plan m n h)

pub runs-unflipped : RunsUnflipped
runs-unflipped plan m h =
    let x = subst (λ k. Alike (progress_at plan m k) (unflipped plan m)) (same-min plan.limit) (turns-alike plan m plan.limit h) in
    record { total = x.total; counts = x.counts; flips = x.flips }
