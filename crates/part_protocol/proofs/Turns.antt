-- A turn of one thread keeps what holds of a part, whatever the others are at.
use Rattle.std.proofs.Common.{◌≡◌, ℕ, ◌+◌, ◌<◌, ◌≤◌, inl, inr, List, Some, None, refl, sym, ap, subst, ◌∙◌, arith}
use Rattle.std.specs.Prelude.{Bool, true, false, ◌≢◌, ◌^◌, slice_set}
use Rattle.fault_model.specs.Admissible.{Hit}
use Rattle.part_protocol.specs.Gate.{owed, engaged, is_held_by, total, InOrder}
use Rattle.part_protocol.specs.Part.{Part, gate_of, Role, phase_of, standing_of}
use Rattle.part_protocol.specs.Rules.{Rules, WordsFit, ValuesFit}
use Rattle.part_protocol.specs.BlockLaws.{BlockLaws}
use Rattle.part_protocol.specs.Invariant.{all_passed, all_inside, Open, Busy, PartInv}
use Rattle.part_protocol.specs.Moves.{Shift, up, down, is_holding, Move, quiet, grab, work, free, stores}
use Rattle.part_protocol.specs.Laws.{hits_after, all_engaged}
use Rattle.part_protocol.proofs.Sums.{same-or-not, total-changed, total-above, total-same}
use Rattle.part_protocol.proofs.Order.{held-mine, lock-of, keeps-order}
use Rattle.part_protocol.proofs.Keeps.{clear-after, same-after, idle, Goes, open-on, busy-stored, open-stored, quiet-off, grab-holds, work-holds, work-busy, work-fit, grab-busy, free-holds, free-open, step-of}

module _ (R : Rules) where
  abbrev is_on : Role → Bool
  is_on r = is_holding R r.position

  -- ---- where no role changes

  pub others-keep : (n : ℕ) (v : List ℕ) (hits : List Hit) (a : Part) (roles roles' : ℕ → Role) → ((u : ℕ) → roles' u ≡ roles u)
      → PartInv R n v hits a roles → PartInv R n v (hits_after (all_inside n roles') hits) a roles'
  others-keep n v hits a roles roles' same inv =
      let si = total-same (λ u. (roles' u).inside) (λ u. (roles u).inside) n (λ u. ap (λ r. r.inside) (same u)) in
      let sp = total-same (λ u. (roles' u).passed) (λ u. (roles u).passed) n (λ u. ap (λ r. r.passed) (same u)) in
      let se = total-same (λ u. engaged (standing_of R.mending (roles' u))) (λ u. engaged (standing_of R.mending (roles u))) n (λ u. ap (λ r. engaged (standing_of R.mending r)) (same u)) in
      let on : Goes R hits (hits_after (all_inside n roles') hits) (all_passed n roles) (all_passed n roles') (all_inside n roles) (all_inside n roles') = record {
        none = λ z. sp ∙ z;
        out = λ z y. sym si ∙ y;
        flip = same-after (all_inside n roles') hits;
        clear = inv.clear;
      } in
      record {
        clear = clear-after (all_inside n roles') hits;
        order = record {
          counted = inv.order.counted ∙ sym se;
          holder = λ u. ap is_on (same u) ∙ inv.order.holder u;
          alone = λ u m. inv.order.alone u (sym (ap (λ r. Rattle.part_protocol.specs.Gate.mends (phase_of R.mending r.position)) (same u)) ∙ m);
        };
        unlocked = λ f. open-on R v hits _ a _ _ _ _ on (inv.unlocked f);
        busy = λ u. subst (λ r. Busy R v a r.position) (sym (same u)) (inv.busy u);
        fit = inv.fit;
        values_fit = inv.values_fit;
      }

  -- ---- thread t's turn

  module _ (laws : BlockLaws R) (n t : ℕ) (v : List ℕ) (hits : List Hit) (a : Part) (roles roles' : ℕ → Role) (few : t < n)
      (others : (u : ℕ) → u ≢ t → roles' u ≡ roles u) (small : all_engaged R n roles' < 2 ^ 32) (inv : PartInv R n v hits a roles) where
    abbrev later : List Hit
    later = hits_after (all_inside n roles') hits

    sum-of : (f : Role → ℕ) → total (λ u. f (roles' u)) n + f (roles t) ≡ total (λ u. f (roles u)) n + f (roles' t)
    sum-of f = total-changed (λ u. f (roles u)) (λ u. f (roles' u)) t n few (λ u ne. ap f (others u ne))

    -- each thread's fact, from t's and from the others'
    for-each : (F : Role → Type 0) → F (roles' t) → ((u : ℕ) → u ≢ t → F (roles u)) → (u : ℕ) → F (roles' u)
    for-each F mine rest u = elim (same-or-not u t) [
      | inl e ↦ subst (λ x. F (roles' x)) (sym e) mine
      | inr ne ↦ subst F (sym (others u ne)) (rest u ne)
    ]

    my-lock : is_on (roles t) ≡ true → a.lock ≡ Some t
    my-lock h = lock-of a.lock t (sym (inv.order.holder t) ∙ h)

    -- with the lock at t, the others are idle
    others-idle : is_on (roles t) ≡ true → (u : ℕ) → u ≢ t → is_on (roles u) ≡ false
    others-idle h u ne = inv.order.holder u ∙ ap (λ o. is_held_by o u) (my-lock h) ∙ held-mine t u ne

    goes-shift : Shift (roles t) (roles' t) → Goes R hits later (all_passed n roles) (all_passed n roles') (all_inside n roles) (all_inside n roles')
    goes-shift (up k ei ep) =
        let si = sum-of (λ r. r.inside) in
        let sp = sum-of (λ r. r.passed) in
        record { none = λ z. omega arith; out = λ z y. omega arith; flip = same-after (all_inside n roles') hits; clear = inv.clear }
    goes-shift (down k ei ep) =
        let si = sum-of (λ r. r.inside) in
        let sp = sum-of (λ r. r.passed) in
        record { none = λ z. omega arith; out = λ z y. omega arith; flip = same-after (all_inside n roles') hits; clear = inv.clear }

    goes-still : (roles' t).passed ≡ (roles t).passed → (roles' t).inside ≡ (roles t).inside
        → Goes R hits later (all_passed n roles) (all_passed n roles') (all_inside n roles) (all_inside n roles')
    goes-still ep ei = goes-shift (up 0 (omega arith) ep)

    -- of n threads, one engages no more than all
    mine-below : (f : Role → ℕ) → f (roles t) ≤ total (λ u. f (roles u)) n
    mine-below f = total-above (λ u. f (roles u)) t n few

    keeps-quiet : is_on (roles' t) ≡ false → InOrder n (gate_of a) (λ u. standing_of R.mending (roles' u)) → Shift (roles t) (roles' t) → PartInv R n v later a roles'
    keeps-quiet h order shift = record {
      clear = clear-after (all_inside n roles') hits;
      order = order;
      unlocked = λ f. open-on R v hits later a _ _ _ _ (goes-shift shift) (inv.unlocked f);
      busy = for-each (λ r. Busy R v a r.position) (idle R v a (roles' t).position h) (λ u ne. inv.busy u);
      fit = inv.fit;
      values_fit = inv.values_fit;
    }

    keeps-stores : (i bits : ℕ) → roles' t ≡ roles t → is_on (roles t) ≡ false → 0 < (roles t).held
        → InOrder n (gate_of a) (λ u. standing_of R.mending (roles' u)) → WordsFit R (slice_set a.words i bits) → ValuesFit R (slice_set v i bits)
        → PartInv R n (slice_set v i bits) later (record a { words = slice_set a.words i bits }) roles'
    keeps-stores i bits e h held order fw fv =
        let above : 0 < a.count = (let c = inv.order.counted in let le = mine-below (λ r. engaged (standing_of R.mending r)) in omega arith) in
        record {
          clear = clear-after (all_inside n roles') hits;
          order = order;
          unlocked = λ f. open-stored R v a i bits above hits later _ _ _ _ (inv.unlocked f);
          busy = for-each (λ r. Busy R (slice_set v i bits) (record a { words = slice_set a.words i bits }) r.position)
              (idle R (slice_set v i bits) _ (roles' t).position (ap is_on e ∙ h)) (λ u ne. busy-stored R v a i bits above (roles u).position (inv.busy u));
          fit = fw;
          values_fit = fv;
        }

    keeps-grab : is_on (roles' t) ≡ true → owed (phase_of R.mending (roles t).position) ≤ a.count → InOrder n (record (gate_of a) { lock = Some t }) (λ u. standing_of R.mending (roles' u))
        → (roles' t).passed ≡ (roles t).passed → (roles' t).inside ≡ (roles t).inside → a.lock ≡ None → Busy R v (record a { lock = Some t }) (roles' t).position
        → PartInv R n v later (record a { lock = Some t }) roles'
    keeps-grab h le order ep ei f mine = record {
      clear = clear-after (all_inside n roles') hits;
      order = order;
      unlocked = λ z. absurd (cc);
      busy = for-each (λ r. Busy R v (record a { lock = Some t }) r.position) mine
          (λ u ne. idle R v _ (roles u).position (inv.order.holder u ∙ ap (λ o. is_held_by o u) f));
      fit = inv.fit;
      values_fit = inv.values_fit;
    }

    keeps-work : (a' : Part) → is_on (roles t) ≡ true → InOrder n (gate_of a') (λ u. standing_of R.mending (roles' u)) → a'.lock ≡ a.lock
        → Busy R v a' (roles' t).position → WordsFit R a'.words → PartInv R n v later a' roles'
    keeps-work a' h order el mine fit = record {
      clear = clear-after (all_inside n roles') hits;
      order = order;
      unlocked = λ z. absurd (let l = my-lock h in cc);
      busy = for-each (λ r. Busy R v a' r.position) mine (λ u ne. idle R v a' (roles u).position (others-idle h u ne));
      fit = fit;
      values_fit = inv.values_fit;
    }

    keeps-free : is_on (roles t) ≡ true → is_on (roles' t) ≡ false → InOrder n (record (gate_of a) { lock = None }) (λ u. standing_of R.mending (roles' u))
        → Open R v later (record a { lock = None }) (all_passed n roles') (all_inside n roles') → PartInv R n v later (record a { lock = None }) roles'
    keeps-free h h' order now = record {
      clear = clear-after (all_inside n roles') hits;
      order = order;
      unlocked = λ z. now;
      busy = for-each (λ r. Busy R v (record a { lock = None }) r.position) (idle R v _ (roles' t).position h')
          (λ u ne. idle R v _ (roles u).position (others-idle h u ne));
      fit = inv.fit;
      values_fit = inv.values_fit;
    }

    at : (a0 a' : Part) (v0 v' : List ℕ) → a' ≡ a0 → v' ≡ v0 → PartInv R n v0 later a0 roles' → PartInv R n v' later a' roles'
    at a0 a' v0 v' ea ev p = subst (λ x. PartInv R n x later a' roles') (sym ev) (subst (λ x. PartInv R n v0 later x roles') (sym ea) p)

    ordered : (v' : List ℕ) (a' : Part) → Move R t (roles t) (roles' t) a a' v v' → InOrder n (gate_of a') (λ u. standing_of R.mending (roles' u))
    ordered v' a' m =
        keeps-order n t (gate_of a) (λ u. standing_of R.mending (roles u)) (λ u. standing_of R.mending (roles' u)) few
        (λ u ne. ap (standing_of R.mending) (others u ne)) inv.order (gate_of a') (step-of R laws n t v v' hits a a' roles roles' inv m)

    ordered-at : (v' : List ℕ) (a0 a' : Part) → a' ≡ a0 → Move R t (roles t) (roles' t) a a' v v' → InOrder n (gate_of a0) (λ u. standing_of R.mending (roles' u))
    ordered-at v' a0 a' ea m = subst (λ x. InOrder n (gate_of x) (λ u. standing_of R.mending (roles' u))) ea (ordered v' a' m)

    counted-small : (a' : Part) → InOrder n (gate_of a') (λ u. standing_of R.mending (roles' u)) → a'.count < 2 ^ 32
    counted-small a' order = subst (λ c. c < 2 ^ 32) (sym order.counted) small

    pub turn-keeps : (v' : List ℕ) (a' : Part) → Move R t (roles t) (roles' t) a a' v v' → PartInv R n v' later a' roles'
    turn-keeps v' a' (quiet q e sh ea ev) =
        let o = quiet-off R _ _ q in
        at a a' v v' ea ev (keeps-quiet o.1 (ordered-at v' a a' ea (quiet q e sh ea ev)) sh)
    turn-keeps v' a' (stores i bits e h held ea ev fw fv) =
        at _ a' _ v' ea ev
        (keeps-stores i bits e h held (ordered-at v' (record a { words = slice_set a.words i bits }) a' ea (stores i bits e h held ea ev fw fv))
        (subst (λ p. WordsFit R p.words) ea fw) (subst (ValuesFit R) ev fv))
    turn-keeps v' a' (grab g eh ep ei f ea ev) =
        let order = ordered-at v' (record a { lock = Some t }) a' ea (grab g eh ep ei f ea ev) in
        let le : owed (phase_of R.mending (roles t).position) ≤ a.count = (let c = inv.order.counted in let le = mine-below (λ r. engaged (standing_of R.mending r)) in omega arith) in
        at _ a' v v' ea ev
        (keeps-grab (grab-holds R _ _ g) le order ep ei f
        (grab-busy R laws v later a _ _ inv.fit inv.values_fit (counted-small (record a { lock = Some t }) order)
        (open-on R v hits later a _ _ _ _ (goes-still ep ei) (inv.unlocked f)) t _ _ g le))
    turn-keeps v' a' (work w eh ep ei ev) =
        let order = ordered v' a' (work w eh ep ei ev) in
        let o = work-holds R a a' _ _ w in
        at a' a' v v' refl ev
        (keeps-work a' o.0 order o.1 (work-busy R laws v a a' inv.fit inv.values_fit (counted-small a' order) _ _ w (inv.busy t))
        (work-fit R laws v a a' inv.fit _ _ w))
    turn-keeps v' a' (free f eh ei ea ev) =
        let order = ordered-at v' (record a { lock = None }) a' ea (free f eh ei ea ev) in
        let o = free-holds R _ _ f in
        let le : (roles' t).inside ≤ all_inside n roles' = total-above (λ u. (roles' u).inside) t n few in
        at _ a' v v' ea ev (keeps-free o.0 o.1 order (free-open R laws v later a inv.fit inv.values_fit _ _ _ _ f (inv.busy t) le ei))
