-- Where the lines stand.
use Rattle.std.specs.Prelude.{◌≡◌, ◌≤◌, ℕ, List, [], ◌∷◌, Option, None, IsSome}
use Rattle.std.specs.BTreeMap.{BTreeMap, get}
use Rattle.std.specs.declared.cmp.Ordering.{Ordering}
use Rattle.std.specs.Ordering.{nat_cmp, ordering_then}
use Rattle.std.specs.Option.{option_cmp}
use Rattle.agxx_base.specs.declared.ids.ClassId.{ClassId}
use Rattle.flip_plan.specs.declared.flip.PlannedFlip.{PlannedFlip}
use Rattle.fault_watch.specs.declared.waiting.Spot.{Spot}
use Rattle.fault_lines.specs.Waiting.{Waiter}

abbrev pub waiter_of : Spot × PlannedFlip → Waiter
waiter_of e = record { class = e.0.class; flip = e.1 }

abbrev pub waiters_of : List (Spot × PlannedFlip) → List Waiter
waiters_of [] = []
waiters_of (e ∷ es) = waiter_of e ∷ waiters_of es

-- under the object and the number of the line
abbrev pub IsOwn : Spot → PlannedFlip → Type 0
IsOwn p f = (p.object.0 ≡ f.object.0) × (p.number ≡ f.number)

abbrev pub AreOwn : List (Spot × PlannedFlip) → Type 0
AreOwn [] = Unit {0}
AreOwn (e ∷ es) = IsOwn e.0 e.1 × AreOwn es

abbrev pub spot : ℕ → Option ClassId → ℕ → Spot
spot o c n = record { object = record { 0 = o }; class = c; number = n }

-- by object, class and number
abbrev pub spot_cmp : Spot → Spot → Ordering
spot_cmp p q =
    ordering_then (nat_cmp p.object.0 q.object.0) (ordering_then (option_cmp (λ c d. nat_cmp c.0 d.0) p.class q.class) (nat_cmp p.number q.number))

-- none for an object and a class
abbrev pub HasNone : ℕ → Option ClassId → BTreeMap Spot PlannedFlip → Type 0
HasNone o c lines = (n : ℕ) → get spot_cmp lines (spot o c n) ≡ None

-- where the first for an object and a class stands
pub record IsFirstOf (o : ℕ) (c : Option ClassId) (lines : BTreeMap Spot PlannedFlip) (p : Spot) : Type 0 where
  pub own : p ≡ spot o c p.number
  pub has : IsSome (get spot_cmp lines p)
  pub first : (n : ℕ) → IsSome (get spot_cmp lines (spot o c n)) → p.number ≤ n
