-- Each step keeps the order at a gate.
use Rattle.std.proofs.Common.{◌≡◌, ℕ, ◌+◌, ◌<◌, ◌≤◌, inl, inr, List, [], ◌∷◌, Option, Some, None, refl, sym, ap, subst, ◌∙◌, arith}
use Rattle.std.specs.Prelude.{true, false, ◌≢◌}
use Rattle.step_machine.specs.Total.{upd}
use Rattle.step_machine.proofs.Same.{same-eq, same-self}
use Rattle.part_protocol.specs.Gate.{Gate, open_gate, Phase, away, wants_in, comes_in, came_in, is_in, wants_out, goes_out, went_out, is_out, holds, mends, owed, Standing, nobody, engaged, is_held_by, total, InOrder, Quiet, stays, calls_in, ends_in, calls_out, ends_out, Grab, grabs_in, grabs_out, Work, enters, adds, leaves, takes, renews, Free, frees_in, frees_out, Step, quiet, grab, work, free, Event, gate_after, roles_after, AreSteps, IsAlone, GatesAreInOrder, MendingIsAlone}
use Rattle.part_protocol.proofs.Sums.{same-not, same-or-not, upd-here, upd-there, total-changed, total-above, total-zero, each-zero}

pub held-mine : (t u : ℕ) → u ≢ t → is_held_by (Some t) u ≡ false
held-mine t u other = same-not u t other

pub lock-of : (o : Option ℕ) (t : ℕ) → is_held_by o t ≡ true → o ≡ Some t
lock-of None t e = absurd (cc)
lock-of (Some u) t e = ap Some (sym (same-eq t u e))

-- what mends holds the lock
mends-holds : (p : Phase) → mends p ≡ true → holds p ≡ true
mends-holds away e = absurd (cc)
mends-holds wants_in e = absurd (cc)
mends-holds (comes_in b) e = refl
mends-holds came_in e = absurd (cc)
mends-holds is_in e = absurd (cc)
mends-holds wants_out e = absurd (cc)
mends-holds goes_out e = absurd (cc)
mends-holds (went_out b) e = refl
mends-holds is_out e = absurd (cc)

idle-mends : (p : Phase) → holds p ≡ false → mends p ≡ true → ⊥
idle-mends p h m = (let e = mends-holds p m in cc)

quiet-off : (p q : Phase) → Quiet p q → (holds p ≡ false) × (holds q ≡ false)
quiet-off p q (stays z h) = (h, h)
quiet-off p q calls_in = (refl, refl)
quiet-off p q ends_in = (refl, refl)
quiet-off p q calls_out = (refl, refl)
quiet-off p q ends_out = (refl, refl)

record Grabbed (p q : Phase) : Type 0 where
  before : holds p ≡ false
  behind : holds q ≡ true
  idle : mends q ≡ false
  owes : owed q ≡ owed p

grab-on : (p q : Phase) → Grab p q → Grabbed p q
grab-on p q grabs_in = record { before = refl; behind = refl; idle = refl; owes = refl }
grab-on p q grabs_out = record { before = refl; behind = refl; idle = refl; owes = refl }

-- with so many that are engaged in all
record Worked (g g' : Gate) (p q : Phase) : Type 0 where
  before : holds p ≡ true
  behind : holds q ≡ true
  counts : owed p ≤ g.count → g'.count + owed p ≡ g.count + owed q
  lock : g'.lock ≡ g.lock
  alone : mends q ≡ true → g'.count ≡ 0

no-true : {A : Type 0} → false ≡ true → A
no-true e = absurd (cc)

work-on : (g g' : Gate) (p q : Phase) → Work g g' p q → Worked g g' p q
work-on g g' p q (enters b c alone e) = record {
  before = refl;
  behind = refl;
  counts = λ h. ap (λ x. x.count + 0) e;
  lock = ap (λ x. x.lock) e;
  alone = λ m. ap (λ x. x.count) e ∙ alone m;
}
work-on g g' p q (adds b e) = record {
  before = refl;
  behind = refl;
  counts = λ h. (let c = ap (λ x. x.count) e in omega arith);
  lock = ap (λ x. x.lock) e;
  alone = λ m. no-true m;
}
work-on g g' p q (leaves e) = record {
  before = refl;
  behind = refl;
  counts = λ h. ap (λ x. x.count + 1) e;
  lock = ap (λ x. x.lock) e;
  alone = λ m. no-true m;
}
work-on g g' p q (takes e) = record {
  before = refl;
  behind = refl;
  counts = λ h. (let c = ap (λ x. x.count) e in omega arith);
  lock = ap (λ x. x.lock) e;
  alone = λ m. no-true m;
}
work-on g g' p q (renews b c alone e) = record {
  before = refl;
  behind = refl;
  counts = λ h. ap (λ x. x.count + 0) e;
  lock = ap (λ x. x.lock) e;
  alone = λ m. ap (λ x. x.count) e ∙ alone m;
}

free-on : (p q : Phase) → Free p q → (holds p ≡ true) × (holds q ≡ false) × (owed q ≡ owed p)
free-on p q frees_in = (refl, refl, refl)
free-on p q (frees_out b) = (refl, refl, refl)

module _ (n t : ℕ) (g : Gate) (roles roles' : ℕ → Standing) (few : t < n) (others : (u : ℕ) → u ≢ t → roles' u ≡ roles u)
    (order : InOrder n g roles) where
  sum : total (λ u. engaged (roles' u)) n + engaged (roles t) ≡ total (λ u. engaged (roles u)) n + engaged (roles' t)
  sum = total-changed (λ u. engaged (roles u)) (λ u. engaged (roles' u)) t n few (λ u ne. ap engaged (others u ne))

  -- each thread's fact, from t's and from the others'
  for-each : (F : ℕ → Standing → Type 0) → F t (roles' t) → ((u : ℕ) → u ≢ t → F u (roles u)) → (u : ℕ) → F u (roles' u)
  for-each F mine rest u = elim (same-or-not u t) [
    | inl e ↦ subst (λ x. F x (roles' x)) (sym e) mine
    | inr ne ↦ subst (F u) (sym (others u ne)) (rest u ne)
  ]

  my-lock : holds (roles t).phase ≡ true → g.lock ≡ Some t
  my-lock h = lock-of g.lock t (sym (order.holder t) ∙ h)

  -- with the lock at t, the others are idle
  others-idle : holds (roles t).phase ≡ true → (u : ℕ) → u ≢ t → holds (roles u).phase ≡ false
  others-idle h u ne = order.holder u ∙ ap (λ o. is_held_by o u) (my-lock h) ∙ held-mine t u ne

  above : engaged (roles t) ≤ g.count
  above = let le = total-above (λ u. engaged (roles u)) t n few in let c = order.counted in omega arith

  keeps-quiet : holds (roles t).phase ≡ false → holds (roles' t).phase ≡ false → engaged (roles' t) ≡ engaged (roles t) → InOrder n g roles'
  keeps-quiet h h' e = record {
    counted = (let s = sum in let c = order.counted in omega arith);
    holder = for-each (λ u r. holds r.phase ≡ is_held_by g.lock u) (h' ∙ sym h ∙ order.holder t) (λ u ne. order.holder u);
    alone = for-each (λ u r. mends r.phase ≡ true → g.count ≡ 0) (λ m. absurd (idle-mends (roles' t).phase h' m)) (λ u ne. order.alone u);
  }

  keeps-grab : Grabbed (roles t).phase (roles' t).phase → (roles' t).held ≡ (roles t).held → g.lock ≡ None → InOrder n (record g { lock = Some t }) roles'
  keeps-grab k e f = record {
    counted = (let s = sum in let c = order.counted in let o = k.owes in omega arith);
    holder = for-each (λ u r. holds r.phase ≡ is_held_by (Some t) u) (k.behind ∙ sym (same-self t))
        (λ u ne. order.holder u ∙ ap (λ o. is_held_by o u) f ∙ sym (held-mine t u ne));
    alone = for-each (λ u r. mends r.phase ≡ true → g.count ≡ 0) (λ m. absurd (let i = k.idle in cc)) (λ u ne. order.alone u);
  }

  keeps-work : (g' : Gate) → Worked g g' (roles t).phase (roles' t).phase → (roles' t).held ≡ (roles t).held → InOrder n g' roles'
  keeps-work g' k e = record {
    counted = (let s = sum in let c = order.counted in let a = above in let o = k.counts (omega arith) in omega arith);
    holder = for-each (λ u r. holds r.phase ≡ is_held_by g'.lock u) (k.behind ∙ sym k.before ∙ order.holder t ∙ ap (λ o. is_held_by o t) (sym k.lock))
        (λ u ne. order.holder u ∙ ap (λ o. is_held_by o u) (sym k.lock));
    alone = for-each (λ u r. mends r.phase ≡ true → g'.count ≡ 0) k.alone
        (λ u ne m. absurd (idle-mends (roles u).phase (others-idle k.before u ne) m));
  }

  keeps-free : holds (roles t).phase ≡ true → holds (roles' t).phase ≡ false → owed (roles' t).phase ≡ owed (roles t).phase
      → (roles' t).held ≡ (roles t).held → InOrder n (record g { lock = None }) roles'
  keeps-free h h' o e = record {
    counted = (let s = sum in let c = order.counted in omega arith);
    holder = for-each (λ u r. holds r.phase ≡ false) h' (λ u ne. others-idle h u ne);
    alone = for-each (λ u r. mends r.phase ≡ true → g.count ≡ 0) (λ m. absurd (idle-mends (roles' t).phase h' m)) (λ u ne. order.alone u);
  }

  at : (g0 g' : Gate) → g' ≡ g0 → InOrder n g0 roles' → InOrder n g' roles'
  at g0 g' e order' = subst (λ x. InOrder n x roles') (sym e) order'

  pub keeps-order : (g' : Gate) → Step t (roles t) (roles' t) g g' → InOrder n g' roles'
  keeps-order g' (quiet q e eg) = (let o = quiet-off _ _ q in at g g' eg (keeps-quiet o.0 o.1 e))
  keeps-order g' (grab k e f eg) = at _ g' eg (keeps-grab (grab-on _ _ k) e f)
  keeps-order g' (work w e) = keeps-work g' (work-on g g' _ _ w) e
  keeps-order g' (free f e eg) = (let o = free-on _ _ f in at _ g' eg (keeps-free o.0 o.1 o.2 e))

pub begins-in-order : (n : ℕ) → InOrder n open_gate (λ t. nobody)
begins-in-order n = record {
  counted = sym (total-zero (λ t. 0) n (λ t. refl));
  holder = λ t. refl;
  alone = λ t m. refl;
}

runs-on : (n : ℕ) (es : List Event) (g : Gate) (roles : ℕ → Standing) → InOrder n g roles → AreSteps n g roles es
    → InOrder n (gate_after g es) (roles_after roles es)
runs-on n [] g roles order steps = order
runs-on n (e ∷ es) g roles order steps =
    runs-on n es e.gate (upd roles e.thread e.then)
    (keeps-order n e.thread g roles (upd roles e.thread e.then) steps.0 (λ u ne. upd-there roles e.thread e.then u ne) order e.gate
    (subst (λ r. Step e.thread (roles e.thread) r g e.gate) (sym (upd-here roles e.thread e.then)) steps.1))
    steps.2

pub mends-alone : (n t : ℕ) (g : Gate) (roles : ℕ → Standing) → InOrder n g roles → mends (roles t).phase ≡ true → IsAlone n t g roles
mends-alone n t g roles order m =
    let lock = lock-of g.lock t (sym (order.holder t) ∙ mends-holds (roles t).phase m) in
    record {
      has_lock = lock;
      none_counted = order.alone t m;
      none_engaged = each-zero (λ u. engaged (roles u)) n (sym order.counted ∙ order.alone t m);
      no_other = λ u mu. same-eq u t (sym (ap (λ o. is_held_by o u) lock) ∙ sym (order.holder u) ∙ mends-holds (roles u).phase mu);
    }

pub gates-in-order : GatesAreInOrder
gates-in-order = record {
  begins = begins-in-order;
  keeps = λ n t g g' roles roles' few others order step. keeps-order n t g roles roles' few others order g' step;
  of_runs = λ n es steps. runs-on n es open_gate (λ t. nobody) (begins-in-order n) steps;
}

pub mending-alone : MendingIsAlone
mending-alone = record {
  of_order = mends-alone;
  of_runs = λ n t es steps m. mends-alone n t _ _ (runs-on n es open_gate (λ t. nobody) (begins-in-order n) steps) m;
}
