-- A run by a plan turn by turn: it goes on while it is running, and then more turns change nothing.
use Rattle.std.proofs.Common.{◌≡◌, ◌≤◌, ◌+◌, ◌-◌, ℕ, zero, suc, min, if◌then◌else◌, Bool, true, false, refl, ap, sym, subst, ◌∙◌, arith}
use Rattle.flip_plan.specs.Plans.{PlanMeaning}
use Rattle.step_machine.specs.declared.outcome.State.{State}
use Rattle.step_machine.specs.declared.outcome.State.TheVariants as state
use Rattle.step_machine.specs.Machine.{Machine}
use Rattle.step_machine.specs.Total.{Total, reading}
use Rattle.step_engine.specs.TurnRuns as engine
use Rattle.fault_model.specs.PlanLines.{FaultPlan, fault_plan}
use Rattle.fault_model.specs.Progress.{Progress, is_running, at_moment, passed, after_turns, before_first}
use Rattle.plan_runs.specs.Watches.{Watched, StandsAt}
use Rattle.plan_runs.specs.Runs.{StandsBefore, ComesTo, planned, progress_at}

-- ---- two tests of one thing

pub running-is : (s : State) → is_running s ≡ engine.is_running s
running-is state.Running = refl
running-is (state.Ended z) = refl
running-is (state.Stopped cause at) = refl
running-is (state.Halted o class) = refl
running-is state.Lost = refl

runs-as : (p : Progress) (m : Machine) (b : Bool) → p.total ≡ reading m → engine.is_running m.state ≡ b → is_running p.total.state ≡ b
runs-as p m b e h = ap (λ (x : Total). is_running x.state) e ∙ running-is m.state ∙ h

-- ---- where it is over

over-passed : (plan : FaultPlan) (i : ℕ) (p : Progress) → is_running p.total.state ≡ false → passed plan i p ≡ p
over-passed plan i p h = ap (λ b. if b then at_moment plan i p else p) h

over-more : (plan : FaultPlan) (p : Progress) (n k : ℕ) → is_running (after_turns plan p n).total.state ≡ false
    → after_turns plan p (n + k) ≡ after_turns plan p n
over-more plan p n zero h = let e : n + zero ≡ n = omega arith in ap (after_turns plan p) e
over-more plan p n (suc k) h =
    let e : n + suc k ≡ suc (n + k) = omega arith in
    let i = over-more plan p n k h in
    ap (after_turns plan p) e ∙ ap (passed plan (n + k)) i ∙ over-passed plan (n + k) (after_turns plan p n) h

over-at : (plan : FaultPlan) (p : Progress) (n limit : ℕ) → n ≤ limit → is_running (after_turns plan p n).total.state ≡ false
    → after_turns plan p n ≡ after_turns plan p limit
over-at plan p n limit l h =
    let e : n + (limit - n) ≡ limit = omega (arith, l) in
    sym (over-more plan p n (limit - n) h) ∙ ap (after_turns plan p) e

pub same-min : (n : ℕ) → n ≡ min n n
same-min n = omega arith

-- behind so many turns, where the run is over or these are all
pub stands-over : (plan : PlanMeaning) (m : Machine) (n : ℕ) (now : Machine) (w : Watched) → n ≤ plan.limit → engine.is_running now.state ≡ false
    → StandsBefore n (progress_at plan m n) now w → StandsAt (planned plan m) now w
stands-over plan m n now w l h b =
    let e = over-at (fault_plan plan) (before_first (fault_plan plan) (reading m)) n plan.limit l (runs-as (progress_at plan m n) now false b.stands.total h) in
    subst (λ p. StandsAt p now w) (e ∙ ap (progress_at plan m) (same-min plan.limit)) b.stands

-- ---- where it goes on

pub stands-next : (plan : PlanMeaning) (m : Machine) (n : ℕ) (mid : Machine) (half : Watched) (now : Machine) (w : Watched)
    → engine.is_running mid.state ≡ true → ComesTo plan n mid half now w → StandsBefore n (progress_at plan m n) mid half
    → StandsBefore (n + 1) (progress_at plan m (n + 1)) now w
stands-next plan m n mid half now w h c b =
    let p = progress_at plan m n in
    let r = runs-as p mid true b.stands.total h in
    let e : progress_at plan m (suc n) ≡ at_moment (fault_plan plan) n p = ap (λ b. if b then at_moment (fault_plan plan) n p else p) r in
    let s : StandsBefore (suc n) (progress_at plan m (suc n)) now w = subst (λ x. StandsBefore (suc n) x now w) (sym e) (c p b) in
    let k : suc n ≡ n + 1 = omega arith in
    subst (λ j. StandsBefore j (progress_at plan m j) now w) k s
