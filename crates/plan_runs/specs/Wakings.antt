-- Lines that a turn may wake.
use Rattle.std.specs.Prelude.{◌≡◌, ◌<◌, ◌≤◌, ◌⊎◌, ℕ, true, List, [], ◌∷◌, length, Option, Some, None, option_map}
use Rattle.agxx_base.specs.declared.ids.ClassId.{ClassId}
use Rattle.agxx_base.specs.declared.ids.ObjectId.{ObjectId}
use Rattle.flip_plan.specs.declared.flip.PlannedFlip.{PlannedFlip}
use Rattle.step_machine.specs.Setting.{Setting, is_of}
use Rattle.step_machine.specs.Turn.{thread_at}
use Rattle.step_machine.specs.Machine.{Machine}
use Rattle.fault_lines.specs.Lists.{IsIn}
use Rattle.fault_lines.specs.Due.{with_all}
use Rattle.fault_lines.specs.Waiting.{Waiter, waits, NoLineWaitsFor}
use Rattle.fault_lines.specs.Keeping.{AreSound, Waits, IsLedBy}
use Rattle.fault_watch.specs.declared.inside.Top.{Top}
use Rattle.plan_runs.specs.Watches.{Watched, with_queues}

-- Some lines that wait are due from now on, and wait no more.
pub record Wakes (taken : List PlannedFlip) (w after : Watched) : Type 0 where
  pub left : after.queues.left ≡ w.queues.left
  pub due : after.queues.due ≡ with_all taken w.queues.due
  pub all_else : after ≡ with_queues after.queues w
  pub waited : AreSound w.queues.waiting → (f : PlannedFlip) → IsIn taken f → Waits w.queues.waiting f
  pub gone : AreSound w.queues.waiting → (f : PlannedFlip) → IsIn taken f → Waits after.queues.waiting f → ⊥
  pub fewer : (o : ℕ) (c : Option ClassId) (n : ℕ) (f : PlannedFlip) → waits after.queues.waiting o c n ≡ Some f → waits w.queues.waiting o c n ≡ Some f
  pub rest : (o : ℕ) (c : Option ClassId) (n : ℕ) (f : PlannedFlip) → waits w.queues.waiting o c n ≡ Some f
      → (waits after.queues.waiting o c n ≡ Some f) ⊎ IsIn taken f

-- Nothing waits for an object any more.
pub record Empties (o : ℕ) (w after : Watched) : Type 0 where
  pub taken : List PlannedFlip
  pub wakes : Wakes taken w after
  pub none : NoLineWaitsFor o None after.queues.waiting

-- what still waits for a part stands behind a line that was taken
abbrev pub AreLed : Machine → List PlannedFlip → Watched → Watched → ℕ → ClassId → Type 0
AreLed m taken w after o class = (n : ℕ) (f : PlannedFlip) → waits after.queues.waiting o (Some class) n ≡ Some f
    → IsLedBy m taken w.queues.waiting o (Some class) f

pub record WakesPart (m : Machine) (o : ℕ) (class : ClassId) (w after : Watched) : Type 0 where
  pub taken : List PlannedFlip
  pub wakes : Wakes taken w after
  pub led : AreLed m taken w after o class

-- the same for the parts of a class and those above it
pub record WakesLine (m : Machine) (o : ℕ) (own : Option ClassId) (w after : Watched) : Type 0 where
  pub taken : List PlannedFlip
  pub wakes : Wakes taken w after
  pub led : (class : ClassId) → is_of m.setting own (Some class) ≡ true → AreLed m taken w after o class

-- the same for the parts that a frame was inside of, where it is gone
pub record WakesLeft (m : Machine) (thread : ℕ) (top : Option Top) (w after : Watched) : Type 0 where
  pub taken : List PlannedFlip
  pub wakes : Wakes taken w after
  pub led : (t : Top) (object : ObjectId) (class : ClassId) → top ≡ Some t → t.object ≡ Some object
      → length (thread_at m.threads thread) < t.depth → is_of m.setting t.class (Some class) ≡ true
      → AreLed m taken w after object.0 class

-- the same, and of what waits for the object that was made all
pub record WakesBy (m : Machine) (thread : ℕ) (top : Option Top) (made : ℕ) (w after : Watched) : Type 0 where
  pub taken : List PlannedFlip
  pub wakes : Wakes taken w after
  pub led : (t : Top) (object : ObjectId) (class : ClassId) → top ≡ Some t → t.object ≡ Some object
      → length (thread_at m.threads thread) < t.depth → is_of m.setting t.class (Some class) ≡ true
      → AreLed m taken w after object.0 class
  pub none : made < length m.world.objects → NoLineWaitsFor made None after.queues.waiting
