-- Where the lines of a plan are kept in a run, so that no turn looks through all that wait: those whose moment is to come, by
-- their moments; those that the next moment goes through; and those that wait for something to happen.
use Rattle.std.specs.Prelude.{◌≡◌, ◌<◌, ◌≤◌, ◌⊎◌, ℕ, suc, true, false, List, [], ◌∷◌, length, map, Option, Some, None, if◌then◌else◌}
use Rattle.std.specs.List.Sorted.{IsNonDecreasingBy}
use Rattle.agxx_base.specs.declared.ids.ClassId.{ClassId}
use Rattle.flip_plan.specs.declared.flip.PlannedFlip.{PlannedFlip}
use Rattle.step_machine.specs.Turn.{thread_at}
use Rattle.step_machine.specs.Machine.{Machine, next}
use Rattle.step_machine.specs.Total.{Total, reading}
use Rattle.step_machine.specs.Flips.{flipped_of}
use Rattle.fault_model.specs.PlanLines.{line_of}
use Rattle.fault_model.specs.Stays.{is_top_on}
use Rattle.fault_model.specs.Admissible.{Hits, while_out, is_admissible}
use Rattle.fault_model.specs.Progress.{Progress, after_flips}
use Rattle.fault_lines.specs.Lists.{IsIn, AreInOrder}
use Rattle.fault_lines.specs.Due.{with_all}
use Rattle.fault_lines.specs.Moments.{first_of, rest_of}
use Rattle.fault_lines.specs.Waiting.{Waiter, waits, IsAdded}
use Rattle.fault_lines.specs.Lines.{IsOn, IsCovered, through, none_ahead}
use Rattle.fault_lines.specs.Wakes.{IsFor, IsDead}

pub record Queues : Type 0 where
  -- whose moment is to come, by their moments
  pub left : List PlannedFlip
  -- that are gone through at the next moment, by their numbers
  pub due : List PlannedFlip
  pub waiting : List Waiter

-- ---- what waits

-- it waits, for its object or for a part
abbrev pub Waits : List Waiter → PlannedFlip → Type 0
Waits ws f = (c : Option ClassId) × (waits ws f.object.0 c f.number ≡ Some f)

-- in one place alone
abbrev pub WaitsOnce : List Waiter → Type 0
WaitsOnce ws =
    (o : ℕ) (c d : Option ClassId) (n : ℕ) (f : PlannedFlip) → waits ws o c n ≡ Some f → waits ws o d n ≡ Some f → c ≡ d

-- Each line that waits stands in one place, under its own object and number.
pub record AreSound (ws : List Waiter) : Type 0 where
  pub own : (o : ℕ) (c : Option ClassId) (n : ℕ) (f : PlannedFlip) → waits ws o c n ≡ Some f → (f.object.0 ≡ o) × (f.number ≡ n)
  pub once : WaitsOnce ws

-- A line whose moment has come waits for what it has to wait for.
pub record WaitsFor (n : ℕ) (m : Total) (ahead : List PlannedFlip) (o : ℕ) (c : Option ClassId) (number : ℕ) (f : PlannedFlip) : Type 0 where
  pub is_in : IsIn ahead f
  pub past : f.moment < n
  pub object : f.object.0 ≡ o
  pub number_is : f.number ≡ number
  pub is_for : IsFor m f c

abbrev pub AreWaiting : ℕ → Total → List PlannedFlip → List Waiter → Type 0
AreWaiting n m ahead ws =
    (o : ℕ) (c : Option ClassId) (number : ℕ) (f : PlannedFlip) → waits ws o c number ≡ Some f → WaitsFor n m ahead o c number f

-- it waits, or never falls
abbrev pub IsFiled : Total → List Waiter → PlannedFlip → Type 0
IsFiled m ws f = IsDead m f ⊎ Waits ws f

-- The lines whose moment is to come, from turn n on.
pub record IsLeftOf (n : ℕ) (ahead left : List PlannedFlip) : Type 0 where
  pub rises : IsNonDecreasingBy (λ f. f.moment) left
  pub is_in : (f : PlannedFlip) → IsIn left f → IsIn ahead f × (n ≤ f.moment)
  pub has : (f : PlannedFlip) → IsIn ahead f → n ≤ f.moment → IsIn left f

-- ---- behind the flips of a moment, and before those of the next one

-- What was gone through before turn n has fallen, or waits and isn't admissible.
pub record AreSettled (n : ℕ) (m : Total) (hits : Hits) (ahead : List PlannedFlip) (q : Queues) : Type 0 where
  pub order : AreInOrder ahead
  pub left : IsLeftOf n ahead q.left
  pub none_due : q.due ≡ []
  pub waiting : AreWaiting n m ahead q.waiting
  pub once : WaitsOnce q.waiting
  pub past : (f : PlannedFlip) → IsIn ahead f → f.moment < n
      → (f.waits ≡ true) × ((is_admissible m hits f ≡ false) × IsFiled m q.waiting f)

-- What isn't gone through next doesn't fall next.
pub record AreReady (n : ℕ) (m : Total) (hits : Hits) (ahead : List PlannedFlip) (q : Queues) : Type 0 where
  pub order : AreInOrder ahead
  pub left : IsLeftOf n ahead q.left
  pub due_order : AreInOrder q.due
  pub due_in : (f : PlannedFlip) → IsIn q.due f → IsIn ahead f × (f.moment < n)
  -- what is due doesn't wait
  pub apart : (f : PlannedFlip) → IsIn q.due f → Waits q.waiting f → ⊥
  pub waiting : AreWaiting n m ahead q.waiting
  pub once : WaitsOnce q.waiting
  pub past : (f : PlannedFlip) → IsIn ahead f → f.moment < n
      → (f.waits ≡ true)
      × (IsIn q.due f ⊎ (((is_admissible m hits f ≡ false) ⊎ IsCovered n m q.due f) × IsFiled m q.waiting f))

-- ---- a moment

-- a line that is due falls, where it doesn't have to wait
abbrev pub with_due_line : PlannedFlip → Progress → Progress
with_due_line f p = through (if f.waits then is_admissible p.total p.hits f else true) f p

abbrev pub with_due : List PlannedFlip → Progress → Progress
with_due [] p = p
with_due (f ∷ fs) p = with_due fs (with_due_line f p)

-- what a line waits for that isn't admissible now: for its object, which isn't made, or for the part that it is on
abbrev pub IsNowFor : Total → PlannedFlip → Option ClassId → Type 0
IsNowFor m f None = m.made ≤ f.object.0
IsNowFor m f (Some class) = (f.object.0 < m.made) × IsOn m class f

-- a line that stays waits from now on, unless it never falls
abbrev pub Files : Total → PlannedFlip → List Waiter → List Waiter → Type 0
Files m f ws more = (IsDead m f × (more ≡ ws)) ⊎ ((c : Option ClassId) × (IsNowFor m f c × IsAdded c f ws more))

abbrev pub FilesEach : Total → List PlannedFlip → List Waiter → List Waiter → Type 0
FilesEach m [] ws more = more ≡ ws
FilesEach m (f ∷ fs) ws more = (mid : List Waiter) × (Files m f ws mid × FilesEach m fs mid more)

-- The lines of a moment are gone through with those that are due, and those that stay are filed.
pub record GoesThrough (turn : ℕ) (p : Progress) (q after : Queues) : Type 0 where
  pub kept : List PlannedFlip
  pub kept_is : (with_due (with_all (first_of turn q.left) q.due) (none_ahead p)).ahead ≡ map line_of kept
  pub files : FilesEach (with_due (with_all (first_of turn q.left) q.due) (none_ahead p)).total kept q.waiting after.waiting
  pub left : after.left ≡ rest_of turn q.left
  pub due : after.due ≡ []

pub record IsSettledBy (turn : ℕ) (p : Progress) (q after : Queues) : Type 0 where
  pub ahead : List PlannedFlip
  pub ahead_is : (after_flips turn p).ahead ≡ map line_of ahead
  pub settled : AreSettled (suc turn) (after_flips turn p).total (after_flips turn p).hits ahead after
  pub all_else : none_ahead (after_flips turn p) ≡ none_ahead (with_due (with_all (first_of turn q.left) q.due) (none_ahead p))

abbrev pub MomentsSettle : Type 0
MomentsSettle =
    (turn : ℕ) (p : Progress) (ahead : List PlannedFlip) (q after : Queues) → p.ahead ≡ map line_of ahead
    → AreReady turn p.total p.hits ahead q → GoesThrough turn p q after → IsSettledBy turn p q after

-- ---- a turn

-- A line with a smaller number is taken, and its flip inverts a bit.
pub record IsLedBy (m : Machine) (taken : List PlannedFlip) (ws : List Waiter) (o : ℕ) (c : Option ClassId) (f : PlannedFlip) : Type 0 where
  pub first : PlannedFlip
  pub is_in : IsIn taken first
  pub waited : waits ws o c first.number ≡ Some first
  pub before : first.number < f.number
  pub inverts : (flipped_of first.object.0 first.word first.bit (reading m)).1 ≡ true

-- Of what waits for an object that the turn made all lines are taken; of what waits for a part that the frame that ran was
-- inside of, where it is gone, the first ones up to one that inverts a bit.
pub record Takes (m : Machine) (t : ℕ) (q after : Queues) : Type 0 where
  pub taken : List PlannedFlip
  pub left : after.left ≡ q.left
  pub due : after.due ≡ with_all taken q.due
  pub waited : AreSound q.waiting → (f : PlannedFlip) → IsIn taken f → Waits q.waiting f
  -- what is taken waits no more
  pub gone : AreSound q.waiting → (f : PlannedFlip) → IsIn taken f → Waits after.waiting f → ⊥
  pub fewer : (o : ℕ) (c : Option ClassId) (n : ℕ) (f : PlannedFlip) → waits after.waiting o c n ≡ Some f → waits q.waiting o c n ≡ Some f
  pub rest : (o : ℕ) (c : Option ClassId) (n : ℕ) (f : PlannedFlip) → waits q.waiting o c n ≡ Some f
      → (waits after.waiting o c n ≡ Some f) ⊎ IsIn taken f
  pub made : length (next m t).0.world.objects ≡ suc (length m.world.objects)
      → (n : ℕ) → waits after.waiting (length m.world.objects) None n ≡ None
  pub parts : (o : ℕ) (class : ClassId) (n : ℕ) (f : PlannedFlip) → is_top_on m.setting o class (thread_at m.threads t) ≡ true
      → length (thread_at (next m t).0.threads t) < length (thread_at m.threads t)
      → waits after.waiting o (Some class) n ≡ Some f → IsLedBy (next m t).0 taken q.waiting o (Some class) f

abbrev pub TurnsMakeReady : Type 0
TurnsMakeReady =
    (n t : ℕ) (m : Machine) (hits : Hits) (ahead : List PlannedFlip) (q after : Queues)
    → AreSettled n (reading m) hits ahead q → Takes m t q after
    → AreReady n (reading (next m t).0) (while_out (reading (next m t).0) hits) ahead after
