-- Once a run is over, more turns change nothing.
use Rattle.std.proofs.Common.{◌≡◌, ℕ, zero, suc, ◌+◌, ◌-◌, ◌≤◌, false, refl, sym, ◌∙◌, arith}
use Rattle.step_machine.specs.Runs.{Ran}
use Rattle.step_engine.specs.TurnRuns.{is_running, taken, after_turns}

over-taken : (t : ℕ) (r : Ran) → is_running r.0.state ≡ false → taken t r ≡ r
over-taken t r h = rw h refl

over-more : (turn : ℕ → ℕ) (r : Ran) (n k : ℕ) → is_running (after_turns turn r n).0.state ≡ false → after_turns turn r (n + k) ≡ after_turns turn r n
over-more turn r n zero h = let e : n + zero ≡ n = omega arith in λ j. after_turns turn r (e j)
over-more turn r n (suc k) h =
    let e : n + suc k ≡ suc (n + k) = omega arith in
    let i : after_turns turn r (n + k) ≡ after_turns turn r n = over-more turn r n k h in
    (λ j. after_turns turn r (e j)) ∙ (λ j. taken (turn (n + k)) (i j)) ∙ over-taken (turn (n + k)) (after_turns turn r n) h

-- the run by a limit, where it is over before
pub over_at : (turn : ℕ → ℕ) (r : Ran) (n limit : ℕ) → n ≤ limit → is_running (after_turns turn r n).0.state ≡ false → after_turns turn r n ≡ after_turns turn r limit
over_at turn r n limit p h =
    let e : n + (limit - n) ≡ limit = omega arith in sym (over-more turn r n (limit - n) h) ∙ (λ j. after_turns turn r (e j))
