-- The flips before a turn and the turn lead from where a run stands before it to where it stands before the next one.
use Rattle.std.proofs.Common.{◌≡◌, ◌<◌, ◌≤◌, ◌+◌, ◌^◌, ℕ, suc, refl, ap, sym, subst, ◌∙◌, arith}
use Rattle.flip_plan.specs.Plans.{PlanMeaning, turn_of}
use Rattle.step_machine.specs.Machine.{Machine, next}
use Rattle.step_machine.specs.Total.{Total, NextOf, reading, next_of}
use Rattle.step_machine.proofs.Turns.{agree}
use Rattle.step_engine.specs.TurnRuns.{turns_in}
use Rattle.step_engine.specs.declared.runs.Counts.{Counts}
use Rattle.fault_model.specs.Admissible.{while_out}
use Rattle.fault_model.specs.Progress.{Progress, after_flips, with_turn}
use Rattle.fault_lines.specs.Due.{with_all}
use Rattle.fault_lines.specs.Moments.{first_of}
use Rattle.fault_lines.specs.Lines.{none_ahead}
use Rattle.fault_lines.specs.Marks.{Marks, Tells}
use Rattle.fault_lines.specs.Keeping.{AreSettled, AreReady, IsSettledBy, MomentsSettle, TurnsMakeReady, with_due}
use Rattle.fault_watch.specs.MarkSets.{has}
use Rattle.plan_runs.specs.Watches.{Watched, StandsAt, TakesFlips}
use Rattle.plan_runs.specs.Turns.{TakesTurn}
use Rattle.plan_runs.specs.Runs.{StandsBefore, ComesTo}

-- ---- but for the lines ahead

tells-alike : (marks : Marks) (p q : Progress) → none_ahead q ≡ none_ahead p → Tells marks p → Tells marks q
tells-alike marks p q e h =
    let s : Tells marks (none_ahead p) = record { hits = h.hits; out = h.out } in
    let t : Tells marks (none_ahead q) = subst (Tells marks) (sym e) s in
    record { hits = t.hits; out = t.out }

pub stands-alike : (p q : Progress) (m : Machine) (w : Watched) → none_ahead q ≡ none_ahead p → StandsAt p m w → StandsAt q m w
stands-alike p q m w e s = record {
  total = ap (λ (x : Progress). x.total) e ∙ s.total;
  marks = tells-alike (has w.marks) p q e s.marks;
  verdict = ap (λ (x : Progress). x.verdict) e ∙ s.verdict;
  flips = ap (λ (x : Progress). x.flips) e ∙ s.flips;
  counts = ap (λ (x : Progress). x.counts) e ∙ s.counts;
  erased = ap (λ (x : Progress). x.erased) e ∙ s.erased;
}

-- ---- the turn

turn-to : (q : Progress) (m : Machine) (t : ℕ) → q.total ≡ reading m → (next_of q.total t).0 ≡ reading (next m t).0
turn-to q m t e = ap (λ (x : NextOf). x.0) (ap (λ z. next_of z t) e ∙ sym (agree.of_next m t))

module _ (ready : TurnsMakeReady) (turn t : ℕ) (p : Progress) (m mid : Machine) (w half : Watched) (now : Machine) (after : Watched)
    (g : IsSettledBy turn p w.queues half.queues) (s : StandsAt (after_flips turn p) mid half) (h : TakesTurn t mid half now after) where
  abbrev q : Progress
  q = after_flips turn p

  settled-to : AreSettled (suc turn) (reading mid) q.hits g.ahead half.queues
  settled-to = subst (λ z. AreSettled (suc turn) z q.hits g.ahead half.queues) s.total g.settled

  ready-to : AreReady (suc turn) (with_turn t q).total (with_turn t q).hits g.ahead after.queues
  ready-to =
      subst (λ z. AreReady (suc turn) z (while_out z q.hits) g.ahead after.queues) (sym (turn-to q mid t s.total))
      (ready (suc turn) t mid q.hits g.ahead half.queues after.queues settled-to h.takes)

  turn-stands : StandsBefore (suc turn) (with_turn t q) now after
  turn-stands = record { stands = h.stands q s; ahead = g.ahead; ahead_is = g.ahead_is; ready = ready-to }

-- ---- the flips and the turn

module _ (settle : MomentsSettle) (ready : TurnsMakeReady) (plan : PlanMeaning) (turn : ℕ) (m mid : Machine) (w half : Watched)
    (now : Machine) (after : Watched) (f : TakesFlips turn m w mid half) where
  comes-by : (t : ℕ) → TakesTurn t mid half now after → (p : Progress) → StandsBefore turn p m w
      → StandsBefore (suc turn) (with_turn t (after_flips turn p)) now after
  comes-by t h p b =
      let x = f p b.stands in
      let g = settle turn p b.ahead w.queues half.queues b.ahead_is b.ready x.1 in
      let d = with_due (with_all (first_of turn w.queues.left) w.queues.due) (none_ahead p) in
      turn-stands ready turn t p m mid w half now after g (stands-alike d (after_flips turn p) mid half g.all_else x.0) h

  pub comes : (t : ℕ) → t ≡ turn_of plan turn → TakesTurn t mid half now after → ComesTo plan turn m w now after
  comes t e h p b =
      comes-by (turn_of plan turn) (subst (λ z. TakesTurn z mid half now after) e h) p b

-- ---- how many turns were taken

pub room-left : (turn : ℕ) (old mid : Counts) → mid ≡ old → turns_in old ≤ turn → turn + 1 < 2 ^ 64 → turns_in mid + 1 < 2 ^ 64
room-left turn old mid e l r =
    let d : turns_in mid ≡ turns_in old = ap (λ (x : Counts). turns_in x) e in
    omega (arith, d, l, r)

pub few-more : (turn : ℕ) (old mid new : Counts) → mid ≡ old → turns_in old ≤ turn → turns_in new ≡ turns_in mid + 1 → turns_in new ≤ turn + 1
few-more turn old mid new e l n =
    let d : turns_in mid ≡ turns_in old = ap (λ (x : Counts). turns_in x) e in
    omega (arith, d, l, n)
