-- Who comes into a part in a turn, and who leaves it: the frame on top of the thread whose turn it is.
use Rattle.std.specs.Prelude.{◌≡◌, ◌<◌, ◌⊎◌, ℕ, suc, Bool, true, false, [], ◌∷◌, length, None}
use Rattle.agxx_base.specs.declared.ids.ClassId.{ClassId}
use Rattle.step_machine.specs.Setting.{Setting}
use Rattle.step_machine.specs.Turn.{Thread, thread_at}
use Rattle.step_machine.specs.World.{class_at}
use Rattle.step_machine.specs.Machine.{Machine, next}
use Rattle.step_machine.specs.Total.{reading}
use Rattle.fault_model.specs.Inside.{is_inside, is_frame_on}

-- whether the frame that runs is on an object in a function of a class or of one derived from it
abbrev pub is_top_on : Setting → ℕ → ClassId → Thread → Bool
is_top_on s o class [] = false
is_top_on s o class (f ∷ fs) = is_frame_on s o class f

pub record StaysChangeAtTheTop : Type 0 where
  -- who is inside first after a turn is the frame that runs then
  pub comes : (m : Machine) (t o : ℕ) (class : ClassId) → is_inside (reading m) o class ≡ false
      → is_inside (reading (next m t).0) o class ≡ true → is_top_on m.setting o class (thread_at (next m t).0.threads t) ≡ true
  -- where nobody is inside any more, the frame that ran is gone
  pub goes : (m : Machine) (t o : ℕ) (class : ClassId) → is_inside (reading m) o class ≡ true
      → is_inside (reading (next m t).0) o class ≡ false
      → (is_top_on m.setting o class (thread_at m.threads t) ≡ true)
      × (length (thread_at (next m t).0.threads t) < length (thread_at m.threads t))
  -- an object keeps its class, or is destroyed, or is the one that was made
  pub class : (m : Machine) (t o : ℕ) → (class_at (next m t).0.world o ≡ class_at m.world o) ⊎ ((class_at (next m t).0.world o ≡ None)
      ⊎ ((o ≡ length m.world.objects) × (length (next m t).0.world.objects ≡ suc (length m.world.objects))))
  -- the setting stays
  pub setting : (m : Machine) (t : ℕ) → (next m t).0.setting ≡ m.setting
