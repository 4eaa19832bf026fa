-- Lines that wait, by object, class of the part and number.
use Rattle.std.specs.Prelude.{◌≡◌, ◌≤◌, ℕ, nat_eq, Bool, true, false, ◌&&◌, List, [], ◌∷◌, Option, Some, None, if◌then◌else◌}
use Rattle.agxx_base.specs.declared.ids.ClassId.{ClassId}
use Rattle.flip_plan.specs.declared.flip.PlannedFlip.{PlannedFlip}

-- A line, and the class of the part that it waits for; none where it waits for its object.
pub record Waiter : Type 0 where
  pub class : Option ClassId
  pub flip : PlannedFlip

abbrev pub same_class : Option ClassId → Option ClassId → Bool
same_class None None = true
same_class None (Some d) = false
same_class (Some c) None = false
same_class (Some c) (Some d) = nat_eq c.0 d.0

-- whether object, class and number are the same
abbrev pub is_spot : ℕ → Option ClassId → ℕ → ℕ → Option ClassId → ℕ → Bool
is_spot o c n p d m = nat_eq o p && (same_class c d && nat_eq n m)

-- the line that waits, by object, class and number
unfoldable pub waits : List Waiter → ℕ → Option ClassId → ℕ → Option PlannedFlip
waits [] o c n = None
waits (w ∷ ws) o c n =
    if is_spot o c n w.flip.object.0 w.class w.flip.number then Some w.flip else waits ws o c n

-- a line more
abbrev pub IsAdded : Option ClassId → PlannedFlip → List Waiter → List Waiter → Type 0
IsAdded class f old new = (o : ℕ) (c : Option ClassId) (n : ℕ)
    → waits new o c n ≡ (if is_spot o c n f.object.0 class f.number then Some f else waits old o c n)

-- the first line for an object and a class, which waits no more
abbrev pub TakesFirst : ℕ → Option ClassId → PlannedFlip → List Waiter → List Waiter → Type 0
TakesFirst object class f old new = (waits old object class f.number ≡ Some f)
    × ((n : ℕ) (g : PlannedFlip) → waits old object class n ≡ Some g → f.number ≤ g.number)
    × ((o : ℕ) (c : Option ClassId) (n : ℕ)
    → waits new o c n ≡ (if is_spot o c n object class f.number then None else waits old o c n))

abbrev pub NoLineWaits : List Waiter → Type 0
NoLineWaits v = (o : ℕ) (c : Option ClassId) (n : ℕ) → waits v o c n ≡ None

abbrev pub NoLineWaitsFor : ℕ → Option ClassId → List Waiter → Type 0
NoLineWaitsFor object class v = (n : ℕ) → waits v object class n ≡ None
