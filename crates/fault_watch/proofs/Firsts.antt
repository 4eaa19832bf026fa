-- The first line for an object and a class, among those from a place on.
use Rattle.std.proofs.Common.{◌≡◌, ◌≤◌, ℕ, refl, ap, sym, ◌∙◌, Option, Some, None, List, [], ◌∷◌, if◌then◌else◌, cond, IsSome, IfSome, MatchOption, is_some, slice_get, subst, arith}
use Rattle.std.specs.BTreeMap.{BTreeMap, is_at, get}
use Rattle.std.specs.BTreeMap.Range.{IsRangeOf, IsEntryInRange, IsLeBy}
use Rattle.std.specs.declared.ops.Bound.TheVariants.{Included, Unbounded}
use Rattle.agxx_base.specs.declared.ids.ClassId.{ClassId}
use Rattle.flip_plan.specs.declared.flip.PlannedFlip.{PlannedFlip}
use Rattle.fault_watch.specs.declared.waiting.Spot.{Spot}
use Rattle.fault_lines.specs.Waiting.{waits, is_spot, TakesFirst, NoLineWaitsFor}
use Rattle.fault_watch.specs.Spots.{waiters_of, AreOwn, spot, spot_cmp, HasNone, IsFirstOf}
use Rattle.fault_watch.proofs.Orders.{between, from-start}
use Rattle.fault_watch.proofs.Waits.{waits-lookup, waits-own, removed}

abbrev pub IsFrom : ℕ → Option ClassId → BTreeMap Spot PlannedFlip → List (Spot × PlannedFlip) → Type 0
IsFrom o c m r = IsRangeOf spot_cmp (Included (spot o c 0)) Unbounded m r

first-from : (o : ℕ) (c : Option ClassId) (m : BTreeMap Spot PlannedFlip) (r t : List (Spot × PlannedFlip)) (p : Spot) (f : PlannedFlip) → IsFrom o c m r → r ≡ (p, f) ∷ t
    → IsEntryInRange spot_cmp (Included (spot o c 0)) Unbounded m (p, f)
first-from o c m r t p f h e =
    let P : List (Spot × PlannedFlip) → Type 0 = λ s. IfSome (slice_get s 0) (IsEntryInRange spot_cmp (Included (spot o c 0)) Unbounded m) in subst P e h.1

least-from : (o : ℕ) (c : Option ClassId) (m : BTreeMap Spot PlannedFlip) (r t : List (Spot × PlannedFlip)) (p : Spot) (f : PlannedFlip) → IsFrom o c m r → r ≡ (p, f) ∷ t
    → (n : ℕ) → IsSome (get spot_cmp m (spot o c n)) → IsLeBy spot_cmp p (spot o c n)
least-from o c m r t p f h e n s =
    let P : List (Spot × PlannedFlip) → Type 0 = λ s. IfSome (slice_get s 0) (λ e. IsLeBy spot_cmp e.0 (spot o c n)) in
    subst P e (h.2 (spot o c n) (from-start o c n, tt) s)

pub found : (o : ℕ) (c : Option ClassId) (m : BTreeMap Spot PlannedFlip) (r t : List (Spot × PlannedFlip)) (p : Spot) (f : PlannedFlip) → IsFrom o c m r → r ≡ (p, f) ∷ t
    → p.object.0 ≡ o → p.class ≡ c → IsFirstOf o c m p
found o c m r t p f h e same own =
    let q = first-from o c m r t p f h e in
    record {
      own = λ i. record { object = record { 0 = same i }; class = own i; number = p.number };
      has = ap is_some q.1;
      first = λ n s. (between o c n p q.0.0 (least-from o c m r t p f h e n s)).2;
    }

none-by : (x : Option PlannedFlip) → (IsSome x → ⊥) → x ≡ None
none-by None never = refl
none-by (Some f) never = absurd (never refl)

pub other-found : (o : ℕ) (c : Option ClassId) (m : BTreeMap Spot PlannedFlip) (r t : List (Spot × PlannedFlip)) (p : Spot) (f : PlannedFlip) → IsFrom o c m r → r ≡ (p, f) ∷ t
    → (p.object.0 ≡ o → p.class ≡ c → ⊥) → HasNone o c m
other-found o c m r t p f h e apart n =
    none-by (get spot_cmp m (spot o c n)) (λ s. let b = between o c n p (first-from o c m r t p f h e).0.0 (least-from o c m r t p f h e n s) in apart b.0 b.1)

pub none-found : (o : ℕ) (c : Option ClassId) (m : BTreeMap Spot PlannedFlip) (r : List (Spot × PlannedFlip)) → IsFrom o c m r → r ≡ [] → HasNone o c m
none-found o c m r h e n = h.5 e (spot o c n) (from-start o c n, tt)

-- ---- the first is taken

pub none-waits : (o : ℕ) (c : Option ClassId) (m : BTreeMap Spot PlannedFlip) → AreOwn m.entries → HasNone o c m → NoLineWaitsFor o c (waiters_of m.entries)
none-waits o c m own none n = waits-lookup m.entries own o c n ∙ none n

pub taken : (o : ℕ) (c : Option ClassId) (m k : BTreeMap Spot PlannedFlip) (p : Spot) (r : Option PlannedFlip) → AreOwn m.entries → AreOwn k.entries → IsFirstOf o c m p
    → r ≡ get spot_cmp m p → ((q : Spot) → get spot_cmp k q ≡ cond (is_at (spot_cmp p) q) None (get spot_cmp m q))
    → MatchOption r ((waiters_of k.entries ≡ waiters_of m.entries) × NoLineWaitsFor o c (waiters_of m.entries)) (λ f. TakesFirst o c f (waiters_of m.entries) (waiters_of k.entries))
taken o c m k p None own own' h is at = absurd cc
taken o c m k p (Some f) own own' h is at =
    let there : waits (waiters_of m.entries) o c p.number ≡ Some f = waits-lookup m.entries own o c p.number ∙ (ap (get spot_cmp m) (sym h.own) ∙ sym is) in
    let number : f.number ≡ p.number = (waits-own (waiters_of m.entries) o c p.number f there).1 in
    let P : ℕ → Type 0 = λ n. waits (waiters_of m.entries) o c n ≡ Some f in
    let Q : ℕ → Type 0 = λ n. (o' : ℕ) (c' : Option ClassId) (n' : ℕ) → waits (waiters_of k.entries) o' c' n' ≡ (if is_spot o' c' n' o c n then None else waits (waiters_of m.entries) o' c' n') in
    let R : Spot → Type 0 = λ s. (q : Spot) → get spot_cmp k q ≡ cond (is_at (spot_cmp s) q) None (get spot_cmp m q) in
    let least : (n : ℕ) (g : PlannedFlip) → waits (waiters_of m.entries) o c n ≡ Some g → f.number ≤ g.number =
    λ n g e. behind n g e (h.first n) number in
    (subst P (sym number) there, least, subst Q (sym number) (removed m.entries k.entries o c p.number own own' (subst R h.own at)))
  where
    behind : (n : ℕ) (g : PlannedFlip) → waits (waiters_of m.entries) o c n ≡ Some g → (IsSome (get spot_cmp m (spot o c n)) → p.number ≤ n) → f.number ≡ p.number → f.number ≤ g.number
    behind n g e after number =
        let there : get spot_cmp m (spot o c n) ≡ Some g = sym (waits-lookup m.entries own o c n) ∙ e in
        let of : g.number ≡ n = (waits-own (waiters_of m.entries) o c n g e).1 in
        let l : p.number ≤ n = after (ap is_some there) in
        omega (arith, number, of, l)
