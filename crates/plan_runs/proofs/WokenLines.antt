-- The lines that wait for the parts of a class and those above it are woken class by class.
use Rattle.std.proofs.Common.{◌≡◌, ◌<◌, ◌≤◌, ◌+◌, ◌-◌, ◌⊎◌, inl, inr, ℕ, zero, suc, nat_eq, Bool, true, false, List, [], ◌++◌, length, Option, Some, None, slice_get, refl, ap, sym, subst, ◌∙◌, arith}
use Rattle.std.proofs.lemmas.Bool.Decides.{nat_tests}
use Rattle.agxx_base.specs.declared.ids.ClassId.{ClassId}
use Rattle.flip_plan.specs.declared.flip.PlannedFlip.{PlannedFlip}
use Rattle.cxx_core.specs.CoreProgram.{CoreClass, CoreProgram}
use Rattle.step_machine.specs.Setting.{Setting, line_in, linked_ids, stands_in}
use Rattle.step_machine.specs.Machine.{Machine}
use Rattle.step_setting.proofs.Lines.{stands_above}
use Rattle.plan_runs.specs.Watches.{Watched}
use Rattle.plan_runs.specs.Wakings.{Wakes, AreLed, WakesPart, WakesLine}
use Rattle.plan_runs.proofs.Wakings.{wakes-none, wakes-both, led-before, led-later}

abbrev StandsIn : List CoreClass → ℕ → Option ClassId → ClassId → Type 0
StandsIn classes n own class = stands_in (Some class) (line_in classes n own) ≡ true

-- Each class of so many from one on was gone through, or is of those that are left from the next one on.
pub record WakesUpTo (m : Machine) (o : ℕ) (classes : List CoreClass) (n : ℕ) (own : Option ClassId) (left : ℕ) (next : Option ClassId)
    (w after : Watched) : Type 0 where
  pub taken : List PlannedFlip
  pub wakes : Wakes taken w after
  pub led : (class : ClassId) → StandsIn classes n own class → AreLed m taken w after o class ⊎ StandsIn classes left next class

pub up-start : (m : Machine) (o : ℕ) (classes : List CoreClass) (n left : ℕ) (own : Option ClassId) (w : Watched) → n ≡ left
    → WakesUpTo m o classes n own left own w w
up-start m o classes n left own w e = record {
  taken = [];
  wakes = wakes-none w;
  led = λ class h. inr (subst (λ k. StandsIn classes k own class) e h);
}

same-class-id : (c d : ClassId) → nat_eq c.0 d.0 ≡ true → c ≡ d
same-class-id c d h = let e : c.0 ≡ d.0 = grind (arith, nat_tests) in λ i. record { 0 = e i }

module _ (m : Machine) (o : ℕ) (classes : List CoreClass) (n : ℕ) (own : Option ClassId) (left : ℕ) (next : Option ClassId)
    (u w : Watched) (x : WakesUpTo m o classes n own left next u w) where
  module _ (number : ClassId) (c : CoreClass) (after : Watched) (l : 0 < left) (e : next ≡ Some number)
      (f : slice_get classes number.0 ≡ Some c) (y : WakesPart m o number w after) where
    led-next : (class : ClassId) → AreLed m x.taken u w o class ⊎ StandsIn classes left next class
        → AreLed m (x.taken ++ y.taken) u after o class ⊎ StandsIn classes (left - 1) c.base class
    led-next class (inl h) = inl (led-before x.taken y.taken u w after x.wakes y.wakes m o class h)
    led-next class (inr h) = go (nat_eq class.0 number.0) refl
      where
        go : (b : Bool) → nat_eq class.0 number.0 ≡ b → AreLed m (x.taken ++ y.taken) u after o class ⊎ StandsIn classes (left - 1) c.base class
        go true q = inl (subst (λ d. AreLed m (x.taken ++ y.taken) u after o d) (sym (same-class-id class number q))
            (led-later x.taken y.taken u w after x.wakes y.wakes m o number y.led))
        go false q = inr (stands_above classes left next number class c l e f q ∙ h)

    up-next : WakesUpTo m o classes n own (left - 1) c.base u after
    up-next = record {
      taken = x.taken ++ y.taken;
      wakes = wakes-both x.taken y.taken u w after x.wakes y.wakes;
      led = λ class h. led-next class (x.led class h);
    }

  -- where none is left, all were gone through
  abbrev NoneIsLeft : Type 0
  NoneIsLeft = line_in classes left next ≡ []

  none-stands : {P : Type 0} (class : ClassId) → NoneIsLeft → StandsIn classes left next class → P
  none-stands class e h = let k : false ≡ true = sym (ap (stands_in (Some class)) e) ∙ h in absurd cc

  pub up-done : NoneIsLeft → m.setting.program.classes ≡ classes → length classes ≡ n → WakesLine m o own u w
  up-done e p k = record {
    taken = x.taken;
    wakes = x.wakes;
    led = λ class h. go class (x.led class (subst (λ j. StandsIn classes j own class) k
        (subst (λ cs. StandsIn cs (length cs) own class) p h)));
  }
    where
      go : (class : ClassId) → AreLed m x.taken u w o class ⊎ StandsIn classes left next class → AreLed m x.taken u w o class
      go class (inl h) = h
      go class (inr h) = none-stands class e h

pub none-at-end : (classes : List CoreClass) (left : ℕ) (next : Option ClassId) → left ≤ 0 → line_in classes left next ≡ []
none-at-end classes zero next h = refl
none-at-end classes (suc n) next h = absurd (omega (arith, h))

pub none-of-none : (classes : List CoreClass) (left : ℕ) (next : Option ClassId) → next ≡ None → line_in classes left next ≡ []
none-of-none classes left next e = ap (line_in classes left) e ∙ go left
  where
    go : (k : ℕ) → line_in classes k None ≡ []
    go zero = refl
    go (suc k) = refl

pub none-beyond : (classes : List CoreClass) (left : ℕ) (next : Option ClassId) (number : ClassId) → next ≡ Some number
    → slice_get classes number.0 ≡ None → line_in classes left next ≡ []
none-beyond classes left next number e h = ap (line_in classes left) e ∙ go left
  where
    go : (k : ℕ) → line_in classes k (Some number) ≡ []
    go zero = refl
    go (suc k) = ap (linked_ids (λ b. line_in classes k b) number) h

-- ---- by how many were gone through

pub up-on : (m : Machine) (o : ℕ) (classes : List CoreClass) (n : ℕ) (own : Option ClassId) (i : ℕ) (next : Option ClassId)
    (u w : Watched) (number : ClassId) (c : CoreClass) (after : Watched) → WakesUpTo m o classes n own (n - i) next u w → i < n
    → next ≡ Some number → slice_get classes number.0 ≡ Some c → WakesPart m o number w after
    → WakesUpTo m o classes n own (n - (i + 1)) c.base u after
up-on m o classes n own i next u w number c after x l e f y =
    let k : (n - i) - 1 ≡ n - (i + 1) = omega (arith, l) in
    let h : 0 < n - i = omega (arith, l) in
    subst (λ left. WakesUpTo m o classes n own left c.base u after) k (up-next m o classes n own (n - i) next u w x number c after h e f y)

pub classes-are : (m : Machine) (s : Setting) (p : CoreProgram) (classes : List CoreClass) → s ≡ m.setting → p ≡ s.program → classes ≡ p.classes
    → m.setting.program.classes ≡ classes
classes-are m s p classes e d c =
    ap (λ (x : Setting). x.program.classes) (sym e) ∙ ap (λ (x : CoreProgram). x.classes) (sym d) ∙ sym c
