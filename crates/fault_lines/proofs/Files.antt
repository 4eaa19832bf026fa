-- Lines that are filed one after the other: what waits then.
use Rattle.std.proofs.Common.{◌≡◌, ◌⊎◌, inl, inr, ℕ, nat_eq, if◌then◌else◌, List, [], ◌∷◌, Bool, true, false, ◌&&◌, Option, Some, None, refl, ap, sym, subst, ◌∙◌, arith, true≢false}
use Rattle.std.proofs.lemmas.Bool.Decides.{nat_tests}
use Rattle.agxx_base.specs.declared.ids.ClassId.{ClassId}
use Rattle.flip_plan.specs.declared.flip.PlannedFlip.{PlannedFlip}
use Rattle.step_machine.specs.Total.{Total}
use Rattle.fault_lines.specs.Lists.{IsIn}
use Rattle.fault_lines.specs.Waiting.{Waiter, waits, is_spot, same_class}
use Rattle.fault_lines.specs.Wakes.{IsFor}
use Rattle.fault_lines.specs.Keeping.{IsFiled, IsNowFor, Files, FilesEach}
use Rattle.fault_lines.proofs.Dues.{TellsApart}

-- ---- spots

equal-self : (n : ℕ) → nat_eq n n ≡ true
equal-self n = grind (arith, nat_tests)

equal-numbers : (m n : ℕ) → nat_eq m n ≡ true → m ≡ n
equal-numbers m n e = grind (arith, nat_tests)

class-self : (c : Option ClassId) → same_class c c ≡ true
class-self None = refl
class-self (Some c) = equal-self c.0

clash : {P : Type 0} → false ≡ true → P
clash e = absurd (true≢false (sym e))

is-class : (c d : Option ClassId) → same_class c d ≡ true → c ≡ d
is-class None None e = refl
is-class None (Some d) e = clash e
is-class (Some c) None e = clash e
is-class (Some c) (Some d) e = ap (λ n. Some (record { 0 = n })) (equal-numbers c.0 d.0 e)

first-true : (a b : Bool) → (a && b) ≡ true → a ≡ true
first-true true b e = refl
first-true false b e = e

second-true : (a b : Bool) → (a && b) ≡ true → b ≡ true
second-true true b e = e
second-true false b e = clash e

spot-self : (o : ℕ) (c : Option ClassId) (n : ℕ) → is_spot o c n o c n ≡ true
spot-self o c n =
    ap (λ b. b && (same_class c c && nat_eq n n)) (equal-self o)
    ∙ ap (λ b. b && nat_eq n n) (class-self c)
    ∙ equal-self n

pub spot-object : (o : ℕ) (c : Option ClassId) (n p : ℕ) (d : Option ClassId) (m : ℕ) → is_spot o c n p d m ≡ true → o ≡ p
spot-object o c n p d m e = equal-numbers o p (first-true (nat_eq o p) (same_class c d && nat_eq n m) e)

pub spot-class : (o : ℕ) (c : Option ClassId) (n p : ℕ) (d : Option ClassId) (m : ℕ) → is_spot o c n p d m ≡ true → c ≡ d
spot-class o c n p d m e =
    is-class c d (first-true (same_class c d) (nat_eq n m) (second-true (nat_eq o p) (same_class c d && nat_eq n m) e))

pub spot-number : (o : ℕ) (c : Option ClassId) (n p : ℕ) (d : Option ClassId) (m : ℕ) → is_spot o c n p d m ≡ true → n ≡ m
spot-number o c n p d m e =
    equal-numbers n m (second-true (same_class c d) (nat_eq n m) (second-true (nat_eq o p) (same_class c d && nat_eq n m) e))

flip_or : PlannedFlip → Option PlannedFlip → PlannedFlip
flip_or f None = f
flip_or f (Some g) = g

pub some-flip : (f g : PlannedFlip) → Some f ≡ Some g → f ≡ g
unfolding flip_or
some-flip f g e = ap (flip_or f) e

-- ---- what waits, from where it comes

pub now-for : (m : Total) (f : PlannedFlip) (c : Option ClassId) → IsNowFor m f c → IsFor m f c
now-for m f None h = h
now-for m f (Some class) h = (h.0, inr h.1)

-- It is one of those that were filed.
pub record IsNew (m : Total) (fs : List PlannedFlip) (o : ℕ) (c : Option ClassId) (n : ℕ) (f : PlannedFlip) : Type 0 where
  pub is_in : IsIn fs f
  pub object : f.object.0 ≡ o
  pub number_is : f.number ≡ n
  pub is_for : IsFor m f c

new-more : (m : Total) (g : PlannedFlip) (gs : List PlannedFlip) (o : ℕ) (c : Option ClassId) (n : ℕ) (f : PlannedFlip) → IsNew m gs o c n f
    → IsNew m (g ∷ gs) o c n f
new-more m g gs o c n f h = record { is_in = inr h.is_in; object = h.object; number_is = h.number_is; is_for = h.is_for }

new-one : (m : Total) (g : PlannedFlip) (gs : List PlannedFlip) (o : ℕ) (c d : Option ClassId) (n : ℕ) (f : PlannedFlip) → IsFor m g d
    → is_spot o c n g.object.0 d g.number ≡ true → g ≡ f → IsNew m (g ∷ gs) o c n f
new-one m g gs o c d n f h s e = record {
  is_in = inl e;
  object = ap (λ (x : PlannedFlip). x.object.0) (sym e) ∙ sym (spot-object o c n g.object.0 d g.number s);
  number_is = ap (λ (x : PlannedFlip). x.number) (sym e) ∙ sym (spot-number o c n g.object.0 d g.number s);
  is_for = subst (λ x. IsFor m x c) e (subst (λ x. IsFor m g x) (sym (spot-class o c n g.object.0 d g.number s)) h);
}

from-one : (m : Total) (g : PlannedFlip) (gs : List PlannedFlip) (ws mid : List Waiter) (o : ℕ) (c : Option ClassId) (n : ℕ) (f : PlannedFlip)
    → Files m g ws mid → waits mid o c n ≡ Some f → (waits ws o c n ≡ Some f) ⊎ IsNew m (g ∷ gs) o c n f
from-one m g gs ws mid o c n f (inl k) h = inl (ap (λ v. waits v o c n) (sym k.1) ∙ h)
from-one m g gs ws mid o c n f (inr k) h = go (is_spot o c n g.object.0 k.0 g.number) refl (sym (k.1.1 o c n) ∙ h)
  where
    go : (b : Bool) → is_spot o c n g.object.0 k.0 g.number ≡ b → (if b then Some g else waits ws o c n) ≡ Some f
        → (waits ws o c n ≡ Some f) ⊎ IsNew m (g ∷ gs) o c n f
    go true s e = inr (new-one m g gs o c k.0 n f (now-for m g k.0 k.1.0) s (some-flip g f e))
    go false s e = inl e

pub from-each : (m : Total) (fs : List PlannedFlip) (ws more : List Waiter) (o : ℕ) (c : Option ClassId) (n : ℕ) (f : PlannedFlip)
    → FilesEach m fs ws more → waits more o c n ≡ Some f → (waits ws o c n ≡ Some f) ⊎ IsNew m fs o c n f
from-each m [] ws more o c n f k h = inl (ap (λ v. waits v o c n) (sym k) ∙ h)
from-each m (g ∷ gs) ws more o c n f k h = go (from-each m gs k.0 more o c n f k.1.1 h)
  where
    go : (waits k.0 o c n ≡ Some f) ⊎ IsNew m gs o c n f → (waits ws o c n ≡ Some f) ⊎ IsNew m (g ∷ gs) o c n f
    go (inl e) = from-one m g gs ws k.0 o c n f k.1.0 e
    go (inr e) = inr (new-more m g gs o c n f e)

-- ---- what is filed stays

stays-one : (m : Total) (g : PlannedFlip) (ws mid : List Waiter) (c : Option ClassId) (f : PlannedFlip) → (f.number ≡ g.number → f ≡ g)
    → Files m g ws mid → waits ws f.object.0 c f.number ≡ Some f → waits mid f.object.0 c f.number ≡ Some f
stays-one m g ws mid c f same (inl k) h = ap (λ v. waits v f.object.0 c f.number) k.1 ∙ h
stays-one m g ws mid c f same (inr k) h =
    k.1.1 f.object.0 c f.number ∙ go (is_spot f.object.0 c f.number g.object.0 k.0 g.number) refl
  where
    go : (b : Bool) → is_spot f.object.0 c f.number g.object.0 k.0 g.number ≡ b → (if b then Some g else waits ws f.object.0 c f.number) ≡ Some f
    go true s = ap Some (sym (same (spot-number f.object.0 c f.number g.object.0 k.0 g.number s)))
    go false s = h

stays-each : (m : Total) (fs : List PlannedFlip) (ws more : List Waiter) (c : Option ClassId) (f : PlannedFlip) → TellsApart fs f
    → FilesEach m fs ws more → waits ws f.object.0 c f.number ≡ Some f → waits more f.object.0 c f.number ≡ Some f
stays-each m [] ws more c f same k h = ap (λ v. waits v f.object.0 c f.number) k ∙ h
stays-each m (g ∷ gs) ws more c f same k h =
    stays-each m gs k.0 more c f (λ x i. same x (inr i)) k.1.1 (stays-one m g ws k.0 c f (same g (inl refl)) k.1.0 h)

pub filed-stays : (m : Total) (fs : List PlannedFlip) (ws more : List Waiter) (f : PlannedFlip) → TellsApart fs f → FilesEach m fs ws more
    → IsFiled m ws f → IsFiled m more f
filed-stays m fs ws more f same k (inl d) = inl d
filed-stays m fs ws more f same k (inr h) = inr (h.0, stays-each m fs ws more h.0 f same k h.1)

-- ---- each is filed

filed-one : (m : Total) (f : PlannedFlip) (ws mid : List Waiter) → Files m f ws mid → IsFiled m mid f
filed-one m f ws mid (inl k) = inl k.0
filed-one m f ws mid (inr k) =
    inr (
      k.0,
      k.1.1 f.object.0 k.0 f.number
          ∙ ap (λ b. if b then Some f else waits ws f.object.0 k.0 f.number) (spot-self f.object.0 k.0 f.number),
    )

pub each-filed : (m : Total) (fs : List PlannedFlip) (ws more : List Waiter) (f : PlannedFlip) → TellsApart fs f → FilesEach m fs ws more
    → IsIn fs f → IsFiled m more f
each-filed m [] ws more f same k i = absurd i
each-filed m (g ∷ gs) ws more f same k (inl e) =
    filed-stays m gs k.0 more f (λ x i. same x (inr i)) k.1.1 (subst (λ x. IsFiled m k.0 x) e (filed-one m g ws k.0 k.1.0))
each-filed m (g ∷ gs) ws more f same k (inr i) = each-filed m gs k.0 more f (λ x j. same x (inr j)) k.1.1 i
