-- Lines that are filed one after the other wait in one place each.
use Rattle.std.proofs.Common.{◌≡◌, ◌≤◌, ◌<◌, ◌⊎◌, inl, inr, ℕ, if◌then◌else◌, List, [], ◌∷◌, Bool, true, false, Option, Some, None, refl, ap, sym, subst, ◌∙◌, arith}
use Rattle.agxx_base.specs.declared.ids.ClassId.{ClassId}
use Rattle.flip_plan.specs.declared.flip.PlannedFlip.{PlannedFlip}
use Rattle.step_machine.specs.Total.{Total}
use Rattle.fault_lines.specs.Lists.{IsIn}
use Rattle.fault_lines.specs.Waiting.{Waiter, waits, is_spot}
use Rattle.fault_lines.specs.Wakes.{LinesAreWoken}
use Rattle.fault_lines.specs.Keeping.{Waits, WaitsOnce, IsNowFor, Files, FilesEach}
use Rattle.fault_lines.proofs.Files.{some-flip, spot-object, spot-class, spot-number}

none-below : {P : Type 0} (a b : ℕ) → a ≤ b → b < a → P
none-below a b l u = absurd (omega (arith, l, u))

-- a line waits for one thing alone
for-one : LinesAreWoken → (m : Total) (f : PlannedFlip) (c d : Option ClassId) → IsNowFor m f c → IsNowFor m f d → c ≡ d
for-one w m f None None h k = refl
for-one w m f None (Some d) h k = none-below m.made f.object.0 h k.0
for-one w m f (Some c) None h k = none-below m.made f.object.0 k h.0
for-one w m f (Some c) (Some d) h k = ap Some (w.one_part m f c d h.1 k.1)

-- what is filed later waits for what it is for
abbrev IsRight : Total → List PlannedFlip → List Waiter → Type 0
IsRight m fs ws = (f : PlannedFlip) → IsIn fs f → (c : Option ClassId) → waits ws f.object.0 c f.number ≡ Some f → IsNowFor m f c

-- at the place of a line that was added
record IsThere (f : PlannedFlip) (k : Option ClassId) (o : ℕ) (c : Option ClassId) (n : ℕ) (g : PlannedFlip) : Type 0 where
  flip : f ≡ g
  object : o ≡ f.object.0
  class : c ≡ k
  number_is : n ≡ f.number

there-or-old : (f : PlannedFlip) (k : Option ClassId) (ws mid : List Waiter) (o : ℕ) (c : Option ClassId) (n : ℕ) (g : PlannedFlip)
    → waits mid o c n ≡ (if is_spot o c n f.object.0 k f.number then Some f else waits ws o c n)
    → waits mid o c n ≡ Some g → IsThere f k o c n g ⊎ (waits ws o c n ≡ Some g)
there-or-old f k ws mid o c n g e h = go (is_spot o c n f.object.0 k f.number) refl (sym e ∙ h)
  where
    go : (b : Bool) → is_spot o c n f.object.0 k f.number ≡ b → (if b then Some f else waits ws o c n) ≡ Some g
        → IsThere f k o c n g ⊎ (waits ws o c n ≡ Some g)
    go true s q = inl (record {
      flip = some-flip f g q;
      object = spot-object o c n f.object.0 k f.number s;
      class = spot-class o c n f.object.0 k f.number s;
      number_is = spot-number o c n f.object.0 k f.number s;
    })
    go false s q = inr q

module _ (w : LinesAreWoken) (m : Total) (f : PlannedFlip) (fs : List PlannedFlip) (ws mid : List Waiter) (k : Option ClassId)
    (is_for : IsNowFor m f k)
    (added : (o : ℕ) (c : Option ClassId) (n : ℕ) → waits mid o c n ≡ (if is_spot o c n f.object.0 k f.number then Some f else waits ws o c n))
    (once : WaitsOnce ws) (right : IsRight m (f ∷ fs) ws) where
  -- the line itself waited there before, if it waited
  same-place : (o : ℕ) (c d : Option ClassId) (n : ℕ) (g : PlannedFlip) → IsThere f k o c n g → waits ws o d n ≡ Some g → c ≡ d
  same-place o c d n g t e =
      t.class ∙ for-one w m f k d is_for (right f (inl refl) d
      (ap (λ p. waits ws p d f.number) (sym t.object) ∙ ap (λ x. waits ws o d x) (sym t.number_is) ∙ e ∙ ap Some (sym t.flip)))

  once-added : WaitsOnce mid
  once-added o c d n g e q = go (there-or-old f k ws mid o c n g (added o c n) e) (there-or-old f k ws mid o d n g (added o d n) q)
    where
      go : IsThere f k o c n g ⊎ (waits ws o c n ≡ Some g) → IsThere f k o d n g ⊎ (waits ws o d n ≡ Some g) → c ≡ d
      go (inl s) (inl t) = s.class ∙ sym t.class
      go (inl s) (inr t) = same-place o c d n g s t
      go (inr s) (inl t) = sym (same-place o d c n g t s)
      go (inr s) (inr t) = once o c d n g s t

  right-added : IsRight m fs mid
  right-added g i c e = go (there-or-old f k ws mid g.object.0 c g.number g (added g.object.0 c g.number) e)
    where
      go : IsThere f k g.object.0 c g.number g ⊎ (waits ws g.object.0 c g.number ≡ Some g) → IsNowFor m g c
      go (inl t) = subst (λ x. IsNowFor m x c) t.flip (subst (λ x. IsNowFor m f x) (sym t.class) is_for)
      go (inr t) = right g (inr i) c t

once-each : LinesAreWoken → (m : Total) (fs : List PlannedFlip) (ws more : List Waiter) → FilesEach m fs ws more → WaitsOnce ws → IsRight m fs ws
    → WaitsOnce more
once-each w m [] ws more e once right = subst WaitsOnce (sym e) once
once-each w m (f ∷ fs) ws more e once right = go e.1.0 (once-each w m fs e.0 more e.1.1)
  where
    go : Files m f ws e.0 → (WaitsOnce e.0 → IsRight m fs e.0 → WaitsOnce more) → WaitsOnce more
    go (inl k) later = later (subst WaitsOnce (sym k.1) once) (subst (IsRight m fs) (sym k.1) (λ g i c q. right g (inr i) c q))
    go (inr k) later =
        later (once-added w m f fs ws e.0 k.0 k.1.0 k.1.1 once right) (right-added w m f fs ws e.0 k.0 k.1.0 k.1.1 once right)

-- of lines that didn't wait
pub files-once : LinesAreWoken → (m : Total) (fs : List PlannedFlip) (ws more : List Waiter) → FilesEach m fs ws more → WaitsOnce ws
    → ((f : PlannedFlip) → IsIn fs f → Waits ws f → ⊥) → WaitsOnce more
files-once w m fs ws more e once none = once-each w m fs ws more e once (λ f i c q. absurd (none f i (c, q)))
