-- The order in which the lines stand.
use Rattle.std.proofs.Common.{◌≡◌, ◌≤◌, ℕ, nat_eq, true, false, ◌&&◌, refl, ap, sym, ◌∙◌, Option, Some, None, arith, true≢false}
use Rattle.std.specs.BTreeMap.{is_at}
use Rattle.std.specs.BTreeMap.Range.{IsLeBy}
use Rattle.std.specs.declared.cmp.Ordering.{Ordering}
use Rattle.std.specs.declared.cmp.Ordering.TheVariants.{Less, Equal, Greater}
use Rattle.std.specs.Cmp.{nat_cmp_total, tied_then}
use Rattle.std.specs.Option.{option_cmp, option_eq}
use Rattle.std.specs.Ordering.{nat_cmp, ordering_then, ordering_reverse, is_eq, is_gt}
use Rattle.std.proofs.lemmas.Bool.{and_parts, eqb-true}
use Rattle.std.proofs.lemmas.Bool.Decides.{nat_tests}
use Rattle.std.proofs.lemmas.Map.Keys.{le_from_not_gt}
use Rattle.agxx_base.specs.declared.ids.ClassId.{ClassId}
use Rattle.fault_watch.specs.declared.waiting.Spot.{Spot}
use Rattle.fault_lines.specs.Waiting.{same_class, is_spot}
use Rattle.fault_watch.specs.Spots.{spot, spot_cmp}

abbrev class_cmp : Option ClassId → Option ClassId → Ordering
class_cmp = option_cmp (λ c d. nat_cmp c.0 d.0)

equal-is : (m n : ℕ) → is_eq (nat_cmp m n) ≡ nat_eq m n
equal-is m n = grind (arith, nat_tests)

class-is : (c d : Option ClassId) → is_eq (class_cmp c d) ≡ same_class c d
class-is None None = refl
class-is None (Some d) = refl
class-is (Some c) None = refl
class-is (Some c) (Some d) = equal-is c.0 d.0

pub at-spot : (p q : Spot) → is_at (spot_cmp p) q ≡ is_spot p.object.0 p.class p.number q.object.0 q.class q.number
at-spot p q =
    let a = nat_cmp p.object.0 q.object.0 in
    let b = class_cmp p.class q.class in
    let d = nat_cmp p.number q.number in
    sym (tied_then a (ordering_then b d))
    ∙ (ap (λ t. is_eq a && t) (sym (tied_then b d))
    ∙ (ap (λ t. t && (is_eq b && is_eq d)) (equal-is p.object.0 q.object.0)
    ∙ (ap (λ t. nat_eq p.object.0 q.object.0 && (t && is_eq d)) (class-is p.class q.class)
    ∙ ap (λ t. nat_eq p.object.0 q.object.0 && (same_class p.class q.class && t)) (equal-is p.number q.number))))

-- ---- both ways

class-back : (c d : Option ClassId) → same_class c d ≡ same_class d c
class-back None None = refl
class-back None (Some d) = refl
class-back (Some c) None = refl
class-back (Some c) (Some d) = grind (arith, nat_tests)

eq-back : (m n : ℕ) → nat_eq m n ≡ nat_eq n m
eq-back m n = grind (arith, nat_tests)

pub spot-back : (o : ℕ) (c : Option ClassId) (n p : ℕ) (d : Option ClassId) (m : ℕ) → is_spot o c n p d m ≡ is_spot p d m o c n
spot-back o c n p d m =
    ap (λ t. t && (same_class c d && nat_eq n m)) (eq-back o p)
    ∙ (ap (λ t. nat_eq p o && (t && nat_eq n m)) (class-back c d) ∙ ap (λ t. nat_eq p o && (same_class d c && t)) (eq-back n m))

-- ---- between two of one object and one class

-- an order that stands between two that are equal to it or on the other side
pinched : (r s a b : Ordering) → r ≡ ordering_reverse s → is_gt (ordering_then r a) ≡ false → is_gt (ordering_then s b) ≡ false
    → (r ≡ Equal) × (is_gt a ≡ false) × (is_gt b ≡ false)
pinched Less Less a b e h k = cc
pinched Less Equal a b e h k = cc
pinched Less Greater a b e h k = cc
pinched Equal Less a b e h k = cc
pinched Equal Equal a b e h k = (refl, h, k)
pinched Equal Greater a b e h k = cc
pinched Greater Less a b e h k = cc
pinched Greater Equal a b e h k = cc
pinched Greater Greater a b e h k = cc

class-antisymm : (c d : Option ClassId) → class_cmp c d ≡ ordering_reverse (class_cmp d c)
class-antisymm None None = refl
class-antisymm None (Some d) = refl
class-antisymm (Some c) None = refl
class-antisymm (Some c) (Some d) = nat_cmp_total.antisymm c.0 d.0

nat-equal : (m n : ℕ) → nat_cmp m n ≡ Equal → m ≡ n
nat-equal m n h = grind (arith, nat_tests, h)

class-equal : (c d : Option ClassId) → class_cmp c d ≡ Equal → c ≡ d
class-equal None None h = refl
class-equal None (Some d) h = cc
class-equal (Some c) None h = cc
class-equal (Some c) (Some d) h = let e = nat-equal c.0 d.0 h in λ i. Some (record { 0 = e i })

pub between : (o : ℕ) (c : Option ClassId) (n : ℕ) (p : Spot) → IsLeBy spot_cmp (spot o c 0) p → IsLeBy spot_cmp p (spot o c n)
    → (p.object.0 ≡ o) × (p.class ≡ c) × (p.number ≤ n)
between o c n p low high =
    let a = pinched (nat_cmp o p.object.0) (nat_cmp p.object.0 o) (ordering_then (class_cmp c p.class) (nat_cmp 0 p.number)) (ordering_then (class_cmp p.class c) (nat_cmp p.number n)) (nat_cmp_total.antisymm o p.object.0) low high in
    let b = pinched (class_cmp c p.class) (class_cmp p.class c) (nat_cmp 0 p.number) (nat_cmp p.number n) (class-antisymm c p.class) a.1 a.2 in
    (sym (nat-equal o p.object.0 a.0), sym (class-equal c p.class b.0), le_from_not_gt p.number n b.2)

class-itself : (c : Option ClassId) → class_cmp c c ≡ Equal
class-itself None = refl
class-itself (Some c) = grind (arith, nat_tests)

least : (n : ℕ) → is_gt (nat_cmp 0 n) ≡ false
least n = grind (arith, nat_tests)

pub from-start : (o : ℕ) (c : Option ClassId) (n : ℕ) → IsLeBy spot_cmp (spot o c 0) (spot o c n)
from-start o c n =
    let a : nat_cmp o o ≡ Equal = grind (arith, nat_tests) in
    let b : class_cmp c c ≡ Equal = class-itself c in
    ap (λ r. is_gt (ordering_then r (ordering_then (class_cmp c c) (nat_cmp 0 n)))) a
    ∙ (ap (λ r. is_gt (ordering_then r (nat_cmp 0 n))) b ∙ least n)

-- ---- tests

pub class-tested : (c d : Option ClassId) → option_eq (λ a b. nat_eq a.0 b.0) c d ≡ true → c ≡ d
class-tested None None h = refl
class-tested None (Some d) h = cc
class-tested (Some c) None h = cc
class-tested (Some c) (Some d) h = let e = eqb-true c.0 d.0 h in λ i. Some (record { 0 = e i })

same-tested : (c d : Option ClassId) → option_eq (λ a b. nat_eq a.0 b.0) c d ≡ same_class c d
same-tested None None = refl
same-tested None (Some d) = refl
same-tested (Some c) None = refl
same-tested (Some c) (Some d) = refl

-- what the same object, class and number are
pub spot-tells : (o : ℕ) (c : Option ClassId) (n p : ℕ) (d : Option ClassId) (m : ℕ) → is_spot o c n p d m ≡ true → (o ≡ p) × (c ≡ d) × (n ≡ m)
spot-tells o c n p d m h =
    let a = and_parts (nat_eq o p) (same_class c d && nat_eq n m) h in
    let b = and_parts (same_class c d) (nat_eq n m) a.1 in
    (eqb-true o p a.0, class-tested c d (same-tested c d ∙ b.0), eqb-true n m b.1)

same-itself : (c : Option ClassId) → same_class c c ≡ true
same-itself None = refl
same-itself (Some c) = grind (arith, nat_tests)

pub class-apart : (c d : Option ClassId) → option_eq (λ a b. nat_eq a.0 b.0) c d ≡ false → c ≡ d → ⊥
class-apart c d h e =
    true≢false (sym (same-itself d) ∙ ap (λ b. same_class b d) (sym e) ∙ sym (same-tested c d) ∙ h)

pub spot-itself : (o : ℕ) (c : Option ClassId) (n : ℕ) → is_spot o c n o c n ≡ true
spot-itself o c n =
    let a : nat_eq o o ≡ true = grind (arith, nat_tests) in
    let b : nat_eq n n ≡ true = grind (arith, nat_tests) in
    ap (λ t. t && (same_class c c && nat_eq n n)) a ∙ (ap (λ t. t && nat_eq n n) (same-itself c) ∙ b)
