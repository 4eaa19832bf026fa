-- The laws of parts, put together.
use Rattle.std.proofs.Common.{◌≡◌, ℕ, ◌<◌, List, Option, Some, None, refl, ap, subst, ◌∙◌, arith}
use Rattle.std.specs.Prelude.{Bool, true, false}
use Rattle.step_machine.proofs.Same.{same-self}
use Rattle.part_protocol.specs.Gate.{engaged, is_held_by}
use Rattle.part_protocol.specs.Part.{Part, gate_of, enter_waits, enter_runs, enter_unlocks, enter_ends, leave_waits, leave_counts, leave_runs, leave_ends, Position, outside, entry, exit, Role, standing_of}
use Rattle.part_protocol.specs.Rules.{Rules, members_of}
use Rattle.part_protocol.specs.BlockLaws.{BlockLaws}
use Rattle.part_protocol.specs.Invariant.{Busy, PartInv, BrokenAt}
use Rattle.part_protocol.specs.Moves.{is_holding}
use Rattle.part_protocol.specs.Laws.{TurnsKeep, OthersKeep, PartsHold, BrokenPartsHold, PartsAreKept, PartsAreRight}
use Rattle.part_protocol.proofs.Sums.{total-above, total-few}
use Rattle.part_protocol.proofs.Order.{mends-alone}
use Rattle.part_protocol.proofs.Sure.{goes-on, halts-or-goes}
use Rattle.part_protocol.proofs.Keeps.{step-of}
use Rattle.part_protocol.proofs.Turns.{others-keep, turn-keeps}
use Rattle.part_protocol.proofs.Broken.{broken-owes, others-keep-broken, turn-keeps-broken}
use Rattle.part_protocol.proofs.Flips.{at-rest, flip-keeps, flip-breaks, rest-is-kept}

module _ (R : Rules) where
  turns : BlockLaws R → (broken : Bool) → TurnsKeep R broken
  turns laws false n t v v' hits a a' roles roles' few others small inv move = turn-keeps R laws n t v hits a roles roles' few others small inv v' a' move
  turns laws true n t v v' hits a a' roles roles' few others small inv move = turn-keeps-broken R laws n t a roles roles' few others inv v v' a' move

  others : (broken : Bool) → OthersKeep R broken
  others false n t v hits a roles roles' same inv = others-keep R n v hits a roles roles' same inv
  others true n t v hits a roles roles' same inv = others-keep-broken R n a roles roles' same inv

  -- whoever holds the lock finds the members as they are in the source, where somebody is engaged
  exact-at : (v : List ℕ) (a : Part) → 0 < a.count → (x : Position) → is_holding R x ≡ true → Busy R v a x → members_of R a.words ≡ v
  exact-at v a above outside h b = absurd (cc)
  exact-at v a above (entry enter_waits) h b = absurd (cc)
  exact-at v a above (entry (enter_runs d fs)) h b = b.0 above
  exact-at v a above (entry enter_unlocks) h b = b.1
  exact-at v a above (entry enter_ends) h b = absurd (cc)
  exact-at v a above (exit leave_waits) h b = absurd (cc)
  exact-at v a above (exit (leave_counts d fs)) h b = b.1
  exact-at v a above (exit (leave_runs d fs)) h b = b.0 above
  exact-at v a above (exit leave_ends) h b = absurd (cc)

  hold : BlockLaws R → PartsHold R
  hold laws = record {
    at_rest = at-rest R;
    exact = λ n t v hits a roles few held inv.
        let above : 0 < a.count = (let le = total-above (λ u. engaged (standing_of R.mending (roles u))) t n few in let c = inv.order.counted in omega arith) in
        by-lock n v hits a roles inv above a.lock refl;
    alone = λ n t v hits a roles inv m. mends-alone n t (gate_of a) (λ u. standing_of R.mending (roles u)) inv.order m;
    enter_goes_on = λ n t d v hits a roles fs inv e. (let b = subst (Busy R v a) e (inv.busy t) in
        goes-on R R.most v a d fs (R.enter_puts a.count) inv.fit b.1 (laws.enter_stuck a.count a.words inv.fit));
    leave_goes_on = λ n t d v hits a roles fs inv e. (let b = subst (Busy R v a) e (inv.busy t) in
        goes-on R R.few v a d fs (R.leave_puts a.count) inv.fit b.2 (laws.leave_stuck a.count a.words inv.fit));
    rest_goes_on = λ n t d v hits a roles fs inv e. (let b = subst (Busy R v a) e (inv.busy t) in
        goes-on R R.most v a d fs R.leave_frees inv.fit b.1 (laws.free_stuck a.count a.words inv.fit));
  }
    where
      by-lock : (n : ℕ) (v : List ℕ) (hits : List _) (a : Part) (roles : ℕ → Role) → (inv : PartInv R n v hits a roles) → 0 < a.count → (o : Option ℕ) → a.lock ≡ o → members_of R a.words ≡ v
      by-lock n v hits a roles inv above None e = (inv.unlocked e).above above
      by-lock n v hits a roles inv above (Some u) e =
          exact-at v a above (roles u).position (inv.order.holder u ∙ ap (λ o. is_held_by o u) e ∙ same-self u) (inv.busy u)

  broken : BrokenPartsHold R
  broken = record {
    none = λ n t a roles few inv. (let h = inv.none t in let o = broken-owes R a (roles t).position (inv.busy t) in omega arith);
    repair_goes_on = λ n t d a roles fs inv e. halts-or-goes R a d fs inv.count (subst (BrokenAt R a) e (inv.busy t));
  }

pub parts-kept : PartsAreKept
parts-kept = record {
  turns = turns;
  others = others;
  steps = λ R laws n t v v' hits a a' roles roles' inv move. step-of R laws n t v v' hits a a' roles roles' inv move;
  flips = λ R laws n v hits a roles hit nobody inv bit goes. flip-keeps R n v hits a roles nobody inv hit bit goes;
  breaks = λ R laws n v hits a roles hit nobody inv bit beyond. flip-breaks R n v hits a roles nobody inv hit bit beyond;
  rest = λ R n v hits a roles nobody fit values rest. rest-is-kept R n v hits a roles nobody fit values rest;
}

pub parts-right : PartsAreRight
parts-right = record {
  hold = hold;
  broken = λ R laws. broken R;
  counts = λ R n k roles few. total-few (λ t. engaged (standing_of R.mending (roles t))) n k few;
}
