-- A part that can't be repaired any more: nobody comes to be engaged in it.
use Rattle.std.proofs.Common.{◌≡◌, ℕ, suc, ◌+◌, ◌<◌, inl, inr, List, Some, refl, sym, ap, subst, ◌∙◌, arith}
use Rattle.std.specs.Prelude.{true, false, ◌≢◌}
use Rattle.step_machine.specs.Frame.{Frame}
use Rattle.part_protocol.specs.Gate as gate
use Rattle.part_protocol.specs.Gate.{owed, engaged, is_held_by, InOrder, Step}
use Rattle.part_protocol.specs.Part.{Part, gate_of, enter_waits, enter_runs, enter_unlocks, enter_ends, Position, outside, entry, exit, Role, phase_of, standing_of}
use Rattle.part_protocol.specs.Rules.{Rules, WordsFit}
use Rattle.part_protocol.specs.BlockLaws.{BlockLaws}
use Rattle.part_protocol.specs.Invariant.{Dies, BrokenAt, BrokenInv}
use Rattle.part_protocol.specs.Moves.{is_holding, Quiets, stays, calls_enter, ends_enter, calls_leave, ends_leave, Grabs, grabs_enter, grabs_leave, Works, enter_goes, enter_adds, leave_goes, leave_takes, rest_goes, Frees, frees_enter, frees_leave, Move, quiet, grab, work, free, stores}
use Rattle.part_protocol.proofs.Sums.{same-or-not}
use Rattle.part_protocol.proofs.Order.{held-mine, lock-of, keeps-order}
use Rattle.part_protocol.proofs.Sure.{halts-later, never-there}
use Rattle.part_protocol.proofs.Keeps.{quiet-off, quiet-step, work-holds}

module _ (R : Rules) where
  -- what is asked of the part by whoever does not hold the lock
  broken-off : (a b : Part) (x : Position) → is_holding R x ≡ false → BrokenAt R a x → BrokenAt R b x
  broken-off a b outside h at = tt
  broken-off a b (entry enter_waits) h at = tt
  broken-off a b (entry (enter_runs d fs)) h at = absurd (cc)
  broken-off a b (entry enter_unlocks) h at = at
  broken-off a b (entry enter_ends) h at = at
  broken-off a b (exit s) h at = at

  pub broken-owes : (a : Part) (x : Position) → BrokenAt R a x → owed (phase_of R.mending x) ≡ 0
  broken-owes a outside at = refl
  broken-owes a (entry enter_waits) at = refl
  broken-owes a (entry (enter_runs d fs)) at = refl
  broken-owes a (entry enter_unlocks) at = absurd at
  broken-owes a (entry enter_ends) at = absurd at
  broken-owes a (exit s) at = absurd at

  pub others-keep-broken : (n : ℕ) (a : Part) (roles roles' : ℕ → Role) → ((u : ℕ) → roles' u ≡ roles u) → BrokenInv R n a roles → BrokenInv R n a roles'
  others-keep-broken n a roles roles' same inv = record {
    none = λ u. ap (λ r. r.held) (same u) ∙ inv.none u;
    order = record {
      counted = inv.order.counted ∙ sym (Rattle.part_protocol.proofs.Sums.total-same (λ u. engaged (standing_of R.mending (roles' u))) (λ u. engaged (standing_of R.mending (roles u))) n (λ u. ap (λ r. engaged (standing_of R.mending r)) (same u)));
      holder = λ u. ap (λ r. is_holding R r.position) (same u) ∙ inv.order.holder u;
      alone = λ u m. inv.count;
    };
    count = inv.count;
    unlocked = inv.unlocked;
    busy = λ u. subst (λ r. BrokenAt R a r.position) (sym (same u)) (inv.busy u);
    fit = inv.fit;
  }

  module _ (laws : BlockLaws R) (n t : ℕ) (a : Part) (roles roles' : ℕ → Role) (few : t < n)
      (others : (u : ℕ) → u ≢ t → roles' u ≡ roles u) (inv : BrokenInv R n a roles) where
    for-each : (F : Role → Type 0) → F (roles' t) → ((u : ℕ) → u ≢ t → F (roles u)) → (u : ℕ) → F (roles' u)
    for-each F mine rest u = elim (same-or-not u t) [
      | inl e ↦ subst (λ x. F (roles' x)) (sym e) mine
      | inr ne ↦ subst F (sym (others u ne)) (rest u ne)
    ]

    my-lock : is_holding R (roles t).position ≡ true → a.lock ≡ Some t
    my-lock h = lock-of a.lock t (sym (inv.order.holder t) ∙ h)

    others-idle : is_holding R (roles t).position ≡ true → (u : ℕ) → u ≢ t → is_holding R (roles u).position ≡ false
    others-idle h u ne = inv.order.holder u ∙ ap (λ o. is_held_by o u) (my-lock h) ∙ held-mine t u ne

    adds-never : (d : ℕ) (fs : List Frame) → fs ≡ R.enter_puts a.count → Dies R a d fs → ⊥
    adds-never d fs e will = never-there R a d fs inv.count will (ap (λ q. R.step a.count q a.words) e ∙ laws.enter_stuck a.count a.words inv.fit)

    work-step : (a' : Part) (x y : Position) → Works R a a' x y → BrokenAt R a x → gate.Work (gate_of a) (gate_of a') (phase_of R.mending x) (phase_of R.mending y)
    work-step a' x y (enter_goes d fs next r) at = gate.enters (R.mending fs) (R.mending next) (λ m. inv.count) (ap gate_of r.then)
    work-step a' x y (enter_adds d fs e ea) at = absurd (adds-never d fs e at)
    work-step a' x y (leave_goes d fs next r) at = absurd at
    work-step a' x y (leave_takes d fs e ea) at = absurd at
    work-step a' x y (rest_goes d fs next r) at = absurd at

    record Worked (a' : Part) (y : Position) : Type 0 where
      count : a'.count ≡ 0
      busy : BrokenAt R a' y
      fit : WordsFit R a'.words
      holds-on : is_holding R y ≡ true

    work-on : (a' : Part) (x y : Position) → Works R a a' x y → BrokenAt R a x → Worked a' y
    work-on a' x y (enter_goes d fs next r) at = record {
      count = ap (λ p. p.count) r.then ∙ inv.count;
      busy = subst (λ p. Dies R p (suc d) next) (sym r.then) (halts-later R a d fs inv.count at next r.words r.step);
      fit = subst (λ p. WordsFit R p.words) (sym r.then) r.fit;
      holds-on = refl;
    }
    work-on a' x y (enter_adds d fs e ea) at = absurd (adds-never d fs e at)
    work-on a' x y (leave_goes d fs next r) at = absurd at
    work-on a' x y (leave_takes d fs e ea) at = absurd at
    work-on a' x y (rest_goes d fs next r) at = absurd at

    quiet-on : (x y : Position) → Quiets R x y → BrokenAt R a x → owed (phase_of R.mending y) + (roles' t).held ≡ owed (phase_of R.mending x) + (roles t).held
        → BrokenAt R a y × ((roles' t).held ≡ 0)
    quiet-on x y (stays z h) at e = (let none = inv.none t in (at, omega arith))
    quiet-on x y calls_enter at e = (let none = inv.none t in (tt, omega arith))
    quiet-on x y ends_enter at e = absurd at
    quiet-on x y calls_leave at e = absurd (let none = inv.none t in omega arith)
    quiet-on x y ends_leave at e = absurd at

    never-frees : Frees R (roles t) (roles' t) → ⊥
    never-frees (frees_enter e e') = subst (BrokenAt R a) e (inv.busy t)
    never-frees (frees_leave d h p e e') = subst (BrokenAt R a) e (inv.busy t)

    ordered : (a' : Part) → Step t (standing_of R.mending (roles t)) (standing_of R.mending (roles' t)) (gate_of a) (gate_of a') → InOrder n (gate_of a') (λ u. standing_of R.mending (roles' u))
    ordered a' step =
        keeps-order n t (gate_of a) (λ u. standing_of R.mending (roles u)) (λ u. standing_of R.mending (roles' u)) few
        (λ u ne. ap (standing_of R.mending) (others u ne)) inv.order (gate_of a') step

    at-part : (a0 a' : Part) → a' ≡ a0 → BrokenInv R n a0 roles' → BrokenInv R n a' roles'
    at-part a0 a' e b = subst (λ p. BrokenInv R n p roles') (sym e) b

    grab-on : (x y : Position) → Grabs R x y → BrokenAt R a x → R.beyond a.words ≡ true → BrokenAt R (record a { lock = Some t }) y × gate.Grab (phase_of R.mending x) (phase_of R.mending y)
    grab-on x y grabs_enter at beyond =
        let run = laws.enter_dies a.words inv.fit beyond in
        (record { steps = run.0; few = (let few = run.1 in omega arith); comes = run.2 }, subst (λ b. gate.Grab gate.wants_in (gate.comes_in b)) (sym laws.enter_idle) gate.grabs_in)
    grab-on x y grabs_leave at beyond = absurd at

    pub turn-keeps-broken : (v v' : List ℕ) (a' : Part) → Move R t (roles t) (roles' t) a a' v v' → BrokenInv R n a' roles'
    turn-keeps-broken v v' a' (quiet q e sh ea ev) =
        let o = quiet-off R _ _ q in
        let on = quiet-on _ _ q (inv.busy t) e in
        at-part a a' ea (record {
          none = for-each (λ r. r.held ≡ 0) on.1 (λ u ne. inv.none u);
          order = ordered a (gate.quiet (quiet-step R _ _ q) e refl);
          count = inv.count;
          unlocked = inv.unlocked;
          busy = for-each (λ r. BrokenAt R a r.position) on.0 (λ u ne. inv.busy u);
          fit = inv.fit;
        })
    turn-keeps-broken v v' a' (grab g eh ep ei f ea ev) =
        let on = grab-on _ _ g (inv.busy t) (inv.unlocked f) in
        at-part _ a' ea (record {
          none = for-each (λ r. r.held ≡ 0) (eh ∙ inv.none t) (λ u ne. inv.none u);
          order = ordered (record a { lock = Some t }) (gate.grab on.1 eh f refl);
          count = inv.count;
          unlocked = λ z. absurd (cc);
          busy = for-each (λ r. BrokenAt R (record a { lock = Some t }) r.position) on.0
              (λ u ne. broken-off a _ (roles u).position (inv.order.holder u ∙ ap (λ o. is_held_by o u) f) (inv.busy u));
          fit = inv.fit;
        })
    turn-keeps-broken v v' a' (work w eh ep ei ev) =
        let h = work-holds R a a' _ _ w in
        let on = work-on a' _ _ w (inv.busy t) in
        record {
          none = for-each (λ r. r.held ≡ 0) (eh ∙ inv.none t) (λ u ne. inv.none u);
          order = ordered a' (gate.work (work-step a' _ _ w (inv.busy t)) eh);
          count = on.count;
          unlocked = λ z. absurd (let l = my-lock h.0 in let e = h.1 in cc);
          busy = for-each (λ r. BrokenAt R a' r.position) on.busy (λ u ne. broken-off a a' (roles u).position (others-idle h.0 u ne) (inv.busy u));
          fit = on.fit;
        }
    turn-keeps-broken v v' a' (free f eh ei ea ev) = absurd (never-frees f)
    turn-keeps-broken v v' a' (stores i bits e h held ea ev fw fv) = absurd (let none = inv.none t in omega arith)
