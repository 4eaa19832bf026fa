-- What waits, by where it stands.
use Rattle.std.proofs.Common.{◌≡◌, ℕ, Bool, true, false, refl, ap, sym, ◌∙◌, Option, Some, None, List, [], ◌∷◌, length, if◌then◌else◌, cond, arith}
use Rattle.std.specs.BTreeMap.{is_at, insert_entry}
use Rattle.std.specs.Map.{lookup, remove_entry}
use Rattle.std.specs.declared.cmp.Ordering.{Ordering}
use Rattle.std.specs.declared.cmp.Ordering.TheVariants.{Less, Equal, Greater}
use Rattle.std.specs.Ordering.{is_eq, match_ordering}
use Rattle.std.proofs.lemmas.Option.{same_Some}
use Rattle.agxx_base.specs.declared.ids.ClassId.{ClassId}
use Rattle.flip_plan.specs.declared.flip.PlannedFlip.{PlannedFlip}
use Rattle.fault_watch.specs.declared.waiting.Spot.{Spot}
use Rattle.fault_lines.specs.Waiting.{Waiter, is_spot, waits, IsAdded, NoLineWaits}
use Rattle.fault_watch.specs.Spots.{waiters_of, IsOwn, AreOwn, spot, spot_cmp}
use Rattle.fault_watch.proofs.Orders.{at-spot, spot-back, spot-itself, spot-tells}

pub nothing-waits : (o : ℕ) (c : Option ClassId) (n : ℕ) → waits [] o c n ≡ None
unfolding waits
nothing-waits o c n = refl

-- a line waits under its own object and number
pub waits-own : (v : List Waiter) (o : ℕ) (c : Option ClassId) (n : ℕ) (f : PlannedFlip) → waits v o c n ≡ Some f → (f.object.0 ≡ o) × (f.number ≡ n)
unfolding waits
waits-own [] o c n f h = cc
waits-own (w ∷ ws) o c n f h = go (is_spot o c n w.flip.object.0 w.class w.flip.number) refl (waits-own ws o c n f) h
  where
    go : (b : Bool) → is_spot o c n w.flip.object.0 w.class w.flip.number ≡ b
        → (waits ws o c n ≡ Some f → (f.object.0 ≡ o) × (f.number ≡ n)) → (if b then Some w.flip else waits ws o c n) ≡ Some f → (f.object.0 ≡ o) × (f.number ≡ n)
    go true t next e =
        let s = same_Some w.flip f e in
        let p = spot-tells o c n w.flip.object.0 w.class w.flip.number t in
        (sym (ap (λ g. g.object.0) s) ∙ sym p.0, sym (ap (λ g. g.number) s) ∙ sym p.2)
    go false t next e = next e

-- ---- in a map

pub waits-lookup : (es : List (Spot × PlannedFlip)) → AreOwn es → (o : ℕ) (c : Option ClassId) (n : ℕ)
    → waits (waiters_of es) o c n ≡ lookup (is_at (spot_cmp (spot o c n))) es
unfolding waits
waits-lookup [] own o c n = refl
waits-lookup (e ∷ es) own o c n =
    ap (λ p. if is_spot o c n p e.0.class e.1.number then Some e.1 else waits (waiters_of es) o c n) (sym own.0.0)
    ∙ (ap (λ m. if is_spot o c n e.0.object.0 e.0.class m then Some e.1 else waits (waiters_of es) o c n) (sym own.0.1)
    ∙ (ap (λ t. if t then Some e.1 else waits (waiters_of es) o c n) (sym (at-spot (spot o c n) e.0))
    ∙ ap (λ r. if is_at (spot_cmp (spot o c n)) e.0 then Some e.1 else r) (waits-lookup es own.1 o c n)))

pub still-own : (p : Spot) (f : PlannedFlip) (es : List (Spot × PlannedFlip)) → IsOwn p f → AreOwn es → AreOwn (insert_entry spot_cmp es p f)
still-own p f [] one own = (one, tt)
still-own p f (e ∷ es) one own = go (spot_cmp p e.0) refl (still-own p f es one own.1)
  where
    go : (r : Ordering) → spot_cmp p e.0 ≡ r → AreOwn (insert_entry spot_cmp es p f) → AreOwn (match_ordering r ((p, f) ∷ e ∷ es) ((e.0, f) ∷ es) (e ∷ insert_entry spot_cmp es p f))
    go Less s next = (one, own)
    go Equal s next =
        let t : is_spot p.object.0 p.class p.number e.0.object.0 e.0.class e.0.number ≡ true = sym (at-spot p e.0) ∙ ap is_eq s in
        let q = spot-tells p.object.0 p.class p.number e.0.object.0 e.0.class e.0.number t in
        ((sym q.0 ∙ one.0, sym q.2 ∙ one.1), own.1)
    go Greater s next = (own.0, next)

pub own-removed : (test : Spot → Bool) (es : List (Spot × PlannedFlip)) → AreOwn es → AreOwn (remove_entry test es)
own-removed test [] own = tt
own-removed test (e ∷ es) own = go (test e.0) (own-removed test es own.1)
  where
    go : (b : Bool) → AreOwn (remove_entry test es) → AreOwn (cond b es (e ∷ remove_entry test es))
    go true next = own.1
    go false next = (own.0, next)

-- ---- what insertion and removal leave

pub added : (es fs : List (Spot × PlannedFlip)) (c : Option ClassId) (f : PlannedFlip) → AreOwn es → AreOwn fs
    → ((q : Spot) → lookup (is_at (spot_cmp q)) fs ≡ cond (is_at (spot_cmp (spot f.object.0 c f.number)) q) (Some f) (lookup (is_at (spot_cmp q)) es))
    → IsAdded c f (waiters_of es) (waiters_of fs)
added es fs c f own own' at o d n =
    waits-lookup fs own' o d n
    ∙ (at (spot o d n)
    ∙ (ap (λ t. cond t (Some f) (lookup (is_at (spot_cmp (spot o d n))) es)) (at-spot (spot f.object.0 c f.number) (spot o d n) ∙ spot-back f.object.0 c f.number o d n)
    ∙ ap (λ r. cond (is_spot o d n f.object.0 c f.number) (Some f) r) (sym (waits-lookup es own o d n))))

pub removed : (es fs : List (Spot × PlannedFlip)) (object : ℕ) (c : Option ClassId) (number : ℕ) → AreOwn es → AreOwn fs
    → ((q : Spot) → lookup (is_at (spot_cmp q)) fs ≡ cond (is_at (spot_cmp (spot object c number)) q) None (lookup (is_at (spot_cmp q)) es))
    → (o : ℕ) (d : Option ClassId) (n : ℕ) → waits (waiters_of fs) o d n ≡ (if is_spot o d n object c number then None else waits (waiters_of es) o d n)
removed es fs object c number own own' at o d n =
    waits-lookup fs own' o d n
    ∙ (at (spot o d n)
    ∙ (ap (λ t. cond t None (lookup (is_at (spot_cmp (spot o d n))) es)) (at-spot (spot object c number) (spot o d n) ∙ spot-back object c number o d n)
    ∙ ap (λ r. cond (is_spot o d n object c number) None r) (sym (waits-lookup es own o d n))))

-- where no line waits, there is none
pub none-is-nil : (v : List Waiter) → NoLineWaits v → v ≡ []
unfolding waits
none-is-nil [] none = refl
none-is-nil (w ∷ ws) none =
    let n : (if is_spot w.flip.object.0 w.class w.flip.number w.flip.object.0 w.class w.flip.number then Some w.flip else waits ws w.flip.object.0 w.class w.flip.number) ≡ None = none w.flip.object.0 w.class w.flip.number in
    let s : Some w.flip ≡ None = ap (λ t. if t then Some w.flip else waits ws w.flip.object.0 w.class w.flip.number) (sym (spot-itself w.flip.object.0 w.class w.flip.number)) ∙ n in
    absurd cc

pub nil-is-none : (v : List Waiter) → v ≡ [] → NoLineWaits v
nil-is-none v e o c n = ap (λ w. waits w o c n) e ∙ nothing-waits o c n

pub no-entries : (es : List (Spot × PlannedFlip)) → waiters_of es ≡ [] → length es ≡ 0
no-entries [] e = refl
no-entries (x ∷ es) e = cc

pub no-waiters : (es : List (Spot × PlannedFlip)) → length es ≡ 0 → waiters_of es ≡ []
no-waiters [] e = refl
no-waiters (x ∷ es) e = absurd (omega (arith, e))
