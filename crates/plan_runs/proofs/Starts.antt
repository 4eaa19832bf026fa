-- Where a run stands before the first turn.
use Rattle.std.proofs.Common.{◌≡◌, ◌<◌, ◌≤◌, ◌+◌, ℕ, suc, nat_eq, cond, List, [], ◌∷◌, Bool, true, false, Option, Some, None, inl, inr, refl, ap, sym, subst, ◌∙◌, arith, zero-le}
use Rattle.std.proofs.lemmas.Bool.Decides.{nat_tests}
use Rattle.agxx_base.specs.declared.ids.ClassId.{ClassId}
use Rattle.flip_plan.specs.declared.flip.PlannedFlip.{PlannedFlip}
use Rattle.flip_plan.specs.Plans.{PlanMeaning, IsNumbered}
use Rattle.step_machine.specs.Machine.{Machine}
use Rattle.step_machine.specs.Total.{reading}
use Rattle.step_machine.specs.Runs as runs
use Rattle.step_machine.specs.Runs.{nothing_counted}
use Rattle.step_engine.specs.TurnRuns.{counts_of, turns_in}
use Rattle.step_engine.specs.declared.runs.Counts.{Counts}
use Rattle.fault_model.specs.PlanLines.{fault_plan}
use Rattle.fault_model.specs.Admissible.{no_hits}
use Rattle.fault_model.specs.Progress.{Progress, before_first}
use Rattle.fault_lines.specs.Lists.{IsIn, AreBehind, AreInOrder}
use Rattle.fault_lines.specs.Marks.{Marks, Tells, no_marks}
use Rattle.fault_lines.specs.Waiting.{waits}
use Rattle.fault_lines.specs.Keeping.{AreReady, IsLeftOf}
use Rattle.fault_watch.specs.MarkSets.{has}
use Rattle.plan_runs.specs.Flips.{falling, IsLeft}
use Rattle.plan_runs.specs.Watches.{Watched, StandsAt}
use Rattle.plan_runs.specs.Begins.{IsBegun}
use Rattle.plan_runs.specs.Runs.{StandsBefore}

-- ---- in order, since they are numbered

numbered-behind : (k n : ℕ) (fs : List PlannedFlip) → k < n → IsNumbered n fs → AreBehind k fs
numbered-behind k n [] l h = tt
numbered-behind k n (f ∷ fs) l h =
    let e = h.0 in (omega (arith, e, l), numbered-behind k (suc n) fs (omega (arith, l)) h.1)

numbered-order : (n : ℕ) (fs : List PlannedFlip) → IsNumbered n fs → AreInOrder fs
numbered-order n [] h = tt
numbered-order n (f ∷ fs) h =
    let e = h.0 in (numbered-behind f.number (suc n) fs (omega (arith, e)) h.1, numbered-order (suc n) fs h.1)

-- ---- the lines of a moment

from-falling : (n : ℕ) (fs : List PlannedFlip) (f : PlannedFlip) → IsIn (falling fs n) f → IsIn fs f
from-falling n [] f i = i
from-falling n (g ∷ gs) f i = go (nat_eq g.moment n) i (from-falling n gs f)
  where
    go : (b : Bool) → IsIn (cond b (g ∷ falling gs n) (falling gs n)) f → (IsIn (falling gs n) f → IsIn gs f) → IsIn (g ∷ gs) f
    go true (inl e) more = inl e
    go true (inr k) more = inr (more k)
    go false k more = inr (more k)

same-test : (m : ℕ) → nat_eq m m ≡ true
same-test m = grind (arith, nat_tests)

to-falling : (fs : List PlannedFlip) (f : PlannedFlip) → IsIn fs f → IsIn (falling fs f.moment) f
to-falling [] f i = i
to-falling (g ∷ gs) f (inl e) =
    subst (λ b. IsIn (cond b (g ∷ falling gs f.moment) (falling gs f.moment)) f)
    (sym (subst (λ (x : PlannedFlip). nat_eq g.moment x.moment ≡ true) e (same-test g.moment))) (inl e)
to-falling (g ∷ gs) f (inr k) = go (nat_eq g.moment f.moment) (to-falling gs f k)
  where
    go : (b : Bool) → IsIn (falling gs f.moment) f → IsIn (cond b (g ∷ falling gs f.moment) (falling gs f.moment)) f
    go true j = inr j
    go false j = j

left-all : (flips left : List PlannedFlip) → IsLeft flips 0 left → IsLeftOf 0 flips left
left-all flips left h = record {
  rises = h.rises;
  is_in = λ f i. (from-falling f.moment flips f (subst (λ l. IsIn l f) (h.same f.moment zero-le) (to-falling left f i)), zero-le);
  has = λ f i l. from-falling f.moment left f (subst (λ l. IsIn l f) (sym (h.same f.moment zero-le)) (to-falling flips f i));
}

-- ---- before the first turn

none-in : {P : Type 0} (due : List PlannedFlip) (f : PlannedFlip) → due ≡ [] → IsIn due f → P
none-in due f e i = absurd (subst (λ l. IsIn l f) e i)

none-waits : {P : Type 0} (x : Option PlannedFlip) (f : PlannedFlip) → x ≡ None → x ≡ Some f → P
none-waits x f n e = absurd cc

none-past : {P : Type 0} (n : ℕ) → n < 0 → P
none-past n l = absurd (omega (arith, l))

ready-first : (plan : PlanMeaning) (m : Machine) (w : Watched) → IsBegun plan w → AreReady 0 (reading m) no_hits plan.flips w.queues
ready-first plan m w b = record {
  order = numbered-order 1 plan.flips b.numbered;
  left = left-all plan.flips w.queues.left b.left;
  due_order = subst AreInOrder (sym b.none_due) tt;
  due_in = λ f i. none-in w.queues.due f b.none_due i;
  apart = λ f i k. none-in w.queues.due f b.none_due i;
  waiting = λ o c n f e. none-waits (waits w.queues.waiting o c n) f (b.none_waits o c n) e;
  once = λ o c d n f e k. none-waits (waits w.queues.waiting o c n) f (b.none_waits o c n) e;
  past = λ f i l. none-past f.moment l;
}

stands-first : (plan : PlanMeaning) (m : Machine) (w : Watched) → IsBegun plan w → StandsAt (before_first (fault_plan plan) (reading m)) m w
stands-first plan m w b = record {
  total = refl;
  marks = subst (λ (x : Marks). Tells x (before_first (fault_plan plan) (reading m))) (sym b.no_marks_yet)
      (record { hits = λ o class. refl; out = λ o class e. refl });
  verdict = sym b.verdict;
  flips = sym b.flips;
  counts = sym b.counts;
  erased = sym b.erased;
}

pub begins : (plan : PlanMeaning) (m : Machine) (w : Watched) → IsBegun plan w → StandsBefore 0 (before_first (fault_plan plan) (reading m)) m w
begins plan m w b = record {
  stands = stands-first plan m w b;
  ahead = plan.flips;
  ahead_is = refl;
  ready = ready-first plan m w b;
}

pub none-counted : (c : Counts) → counts_of c ≡ nothing_counted → turns_in c ≤ 0
none-counted c e =
    let d : turns_in c ≡ 0 = ap (λ (x : runs.Counts). x.source + x.inserted + x.blocked + x.idle) e in
    omega (arith, d)
